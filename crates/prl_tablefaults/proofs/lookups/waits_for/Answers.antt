use Rattle.std.proofs.Common.{◌<◌, ◌+◌, ◌^◌, ℕ, arith, length}
use Rattle.prl_plan.specs.Plans.{PlanView}
use Rattle.prl_plan.specs.Vocabulary.{edge_at, operand_of}
use Rattle.prl_tables.proofs.OrderLaws.{to_in}
use Rattle.prl_tablefaults.proofs.Faults.{small_operand}
use Rattle.prl_tablefaults.proofs.lookups.waits_for.Goals as goal

pub operand-requires-clause-small : goal.operand-requires-clause-small
operand-requires-clause-small c =
    let plan : PlanView = c.args.plan.now in
    let to : ℕ = (edge_at plan.graph c.args.e.0).to.0 in
    let inside : to < length plan.graph.tasks = to_in plan c.plan_is_one.ensures c.args.e.0 c.requires.edge in
    let job = c.classes_are_early.ensures.job plan c.plan_is_one.ensures to c.args.c inside c.requires.class in
    let early = c.look_ups_fit.ensures.horizon plan c.plan_is_one.ensures (2 ^ 31 + plan.graph.hyper) to c.args.c (c.classes_are_early.ensures.small plan c.plan_is_one.ensures) job in
    small_operand (operand_of (edge_at plan.graph c.args.e.0) c.args.c) (λ m reads.
    let before = c.look_ups_fit.ensures.operand plan c.plan_is_one.ensures c.args.e.0 c.args.c m c.requires.edge reads in
    let first = early.0 in
    omega (arith, before, first))
