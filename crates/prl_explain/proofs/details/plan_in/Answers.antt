use Rattle.prl_base.proofs.Standard.{option_copied}
use Rattle.prl_explain.proofs.Plans.{plan_is}
use Rattle.prl_explain.proofs.details.plan_in.Goals as goal

pub returns : goal.returns
returns c =
    rw (c.in-Some.is) (plan_is c.in-Some.program.now c.in_ok-text.text.items (option_copied c.args.node) c.in_ok-node.node c.plan_of.result
    c.in_ok-text.ensures.items c.in_ok-node.ensures c.plan_of.ensures)
