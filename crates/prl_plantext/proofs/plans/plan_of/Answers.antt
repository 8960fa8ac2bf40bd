use Rattle.prl_base.proofs.Standard.{rules, ◌≡◌, true, false, sym, ◌∙◌, false≢true}
use Rattle.prl_plantext.proofs.OneText.{outcome_of_text, well_formed_of_text}
use Rattle.prl_plantext.proofs.plans.plan_of.Goals as goal

pub returns-then-not-is_well_formed : goal.returns-then-not-is_well_formed
returns-then-not-is_well_formed c = λ plan is.
    let yes : c.is_well_formed.result ≡ true = c.is_well_formed.ensures.1 (well_formed_of_text c.args.text.now plan c.in-Ok.graph c.in-Ok.ensures is) in
    let not_so : c.is_well_formed.result ≡ false = search rules in
    absurd (false≢true (sym not_so ∙ yes))

pub returns : goal.returns
returns c = outcome_of_text c.args.text.now c.in-Ok.graph c.planned.result c.in-Ok.ensures c.planned.ensures
