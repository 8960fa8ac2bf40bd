use Rattle.prl_base.proofs.Standard.{rules, ◌≡◌, ◌++◌, ◌∙◌, codes, decimal, flat_map}
use Rattle.prl_plantext.specs.PlanTexts.{after_blank, window_text}
use Rattle.prl_plantext.proofs.Lines.{more, dates_line}
use Rattle.prl_plantext.proofs.printing.push_task_dates.Goals as goal

pub returns : goal.returns
returns c =
    let s1 : c.push_after.new.text.items ≡ c.args.text.now.items ++ codes "dates " ++ decimal c.args.i = search rules in
    let s2 : c.push_windows.new.text.items ≡ c.push_after.new.text.items ++ (flat_map (λ w. after_blank (window_text w)) c.args.windows.now) = search rules in
    let s3 : c.push.new.self.items ≡ c.push_windows.new.text.items ++ (codes "\n") = search rules in
    more (codes "\n") s3 (more (flat_map (λ w. after_blank (window_text w)) c.args.windows.now) s2 s1)
    ∙ dates_line c.args.text.now.items c.args.i c.args.windows.now
