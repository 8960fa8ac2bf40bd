use Rattle.std.proofs.Common.{sym, subst}
use Rattle.prl_base.specs.declared.operators.Op.{Op}
use Rattle.prl_plan.specs.Ranges.{HasFactor}
use Rattle.prl_dates.proofs.TurnSteps.{factor_at, some_under, steps_next}
use Rattle.prl_dates.proofs.turns.turn_over.Goals as goal

pub turn_under-requires : goal.turn_under-requires
turn_under-requires c =
    subst (λ (o : Op). HasFactor o) (sym c.op-item.is)
    (factor_at c.args.ops.now c.requires.0 c.requires.1 c.loop-op.op-index c.op-item.result c.loop-op-test.true)

pub loop-op-preserved : goal.loop-op-preserved
loop-op-preserved c = record {
  some = some_under c.op-item.result c.loop-op.turn c.in_ok-turn.turn c.loop-op.invariant.some c.in_ok-turn.ensures;
  steps = steps_next c.args.ops.now c.loop-op.op-index c.op-item.result c.loop-op.turn c.in_ok-turn.turn c.loop-op-test.true c.op-item.is c.loop-op.invariant.steps c.in_ok-turn.ensures;
}
