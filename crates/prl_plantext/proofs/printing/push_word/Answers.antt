use Rattle.prl_base.proofs.Standard.{rules, ◌≡◌, ◌++◌, ◌∙◌, codes, decimal, length, flat_map}
use Rattle.prl_base.specs.Texts.{value_text}
use Rattle.prl_plantext.specs.PlanTexts.{after_blank}
use Rattle.prl_plantext.proofs.Lines.{more, more_both, word_line}
use Rattle.prl_plantext.proofs.printing.push_word.Goals as goal

pub returns : goal.returns
returns c =
    let s1 : c.push_after.new.text.items ≡ c.args.text.now.items ++ codes "word " ++ decimal c.args.e = search rules in
    let s3 : c.push_after-2.new.text.items ≡ c.push_after.new.text.items ++ codes " prefix " ++ decimal (length c.args.word.now.prefix) = search rules in
    let s4 : c.push_values.new.text.items ≡ c.push_after-2.new.text.items ++ (flat_map (λ v. after_blank (value_text v)) c.args.word.now.prefix) = search rules in
    let s5 : c.extend_from_slice.new.self.items ≡ c.push_values.new.text.items ++ (codes " repeat") = search rules in
    let s6 : c.push_numbers.new.text.items ≡ c.extend_from_slice.new.self.items ++ (flat_map (λ n. after_blank (decimal n)) c.args.word.now.repeat) = search rules in
    let s8 : c.push_after-3.new.text.items ≡ c.push_numbers.new.text.items ++ codes " step " ++ decimal c.args.word.now.step_in = search rules in
    let s10 : c.push_after-4.new.text.items ≡ c.push_after-3.new.text.items ++ codes " " ++ decimal c.args.word.now.step_out = search rules in
    let s11 : c.push.new.self.items ≡ c.push_after-4.new.text.items ++ (codes "\n") = search rules in
    more (codes "\n") s11 (more_both (codes " ") (decimal c.args.word.now.step_out) s10 (more_both (codes " step ") (decimal c.args.word.now.step_in) s8 (more (flat_map (λ n. after_blank (decimal n)) c.args.word.now.repeat) s6 (more (codes " repeat") s5 (more (flat_map (λ v. after_blank (value_text v)) c.args.word.now.prefix) s4 (more_both (codes " prefix ") (decimal (length c.args.word.now.prefix)) s3 s1))))))
    ∙ word_line c.args.text.now.items c.args.e c.args.word.now
