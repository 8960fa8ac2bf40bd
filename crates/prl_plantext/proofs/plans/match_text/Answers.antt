use Rattle.prl_base.proofs.Standard.{rules, ◌≡◌, true, false, sym, ◌∙◌, bytes_eq, false≢true}
use Rattle.prl_plantext.proofs.Checked.{bytes_tell}
use Rattle.prl_plantext.proofs.plans.match_text.Goals as goal

pub returns : goal.returns
returns c = λ text.
    let same : bytes_eq c.in-Ok.again.items c.args.text.now ≡ true =
    (bytes_tell c.in-Ok.again.items c.args.text.now).then (sym c.in-Ok.ensures.read_back.printed ∙ text) in
    let differ : bytes_eq c.in-Ok.again.items c.args.text.now ≡ false = search rules in
    absurd (false≢true (sym differ ∙ same))

pub returns-then-eq : goal.returns-then-eq
returns-then-eq c =
    let yes : bytes_eq c.in-Ok.again.items c.args.text.now ≡ true = search rules in
    record {
      planned = c.in-Ok.ensures.read_back.planned;
      held = c.in-Ok.ensures.read_back.held;
      printed = c.in-Ok.ensures.read_back.printed ∙ (bytes_tell c.in-Ok.again.items c.args.text.now).so yes;
    }
