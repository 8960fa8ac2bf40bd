use Rattle.std.proofs.Common.{rules}
use Rattle.prl_plantext.proofs.OneText.{other_refused}
use Rattle.prl_plantext.proofs.plans.read_plan.Goals as goal

pub returns-in_err-match_text : goal.returns-in_err-match_text
returns-in_err-match_text c =
    let made = c.in_ok-plan.ensures in
    let refused = other_refused c.args.text.now c.in_ok-plan.plan c.in_err-match_text.field-0.0 c.plan_is_unique.ensures.plan made.0 made.1 c.in_err-match_text.ensures in
    search rules
