use Rattle.prl_base.proofs.Standard.{◌≡◌, ◌++◌, ◌-◌, ◌/◌, ◌%◌, ◌∙◌, OnOk, ℕ, List, ap, append_assoc, arith, subst, decimal}
use Rattle.prl_drawing.specs.Times.{digits_text}
use Rattle.prl_drawing.proofs.Digits.{no_digit, no_part, one_digit}
use Rattle.prl_drawing.proofs.units.+push_digits.Goals as goal

pub returns-then-most-eq0 : goal.returns-then-most-eq0
returns-then-most-eq0 t c = no_digit c.args.text.now.items c.args.most c.args.part c.args.whole c.if-most-eq0.true

pub returns-then-part-eq0 : goal.returns-then-part-eq0
returns-then-part-eq0 t c = no_part c.args.text.now.items c.args.most c.args.part c.args.whole c.if-part-eq0.true

pub returns : goal.returns
returns t c =
    let whole = c.args.whole in
    let tenths = c.saturating_mul-tenths.result in
    let front = c.args.text.now.items in
    let rest = digits_text (c.args.most - 1) (tenths % whole) whole in
    let all = one_digit c.args.most c.args.part whole tenths (omega arith) (omega arith) (omega (arith, c.saturating_mul-tenths.ensures)) in
    subst (λ (text : List ℕ). OnOk c.push_digits.result (c.push_digits.new.text.items ≡ text))
    (ap (λ (text : List ℕ). text ++ rest) c.in_ok-push_number.ensures ∙ append_assoc front (decimal (tenths / whole)) rest
    ∙ ap (λ (digits : List ℕ). front ++ digits) all)
    c.push_digits.ensures
