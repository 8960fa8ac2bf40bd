use Rattle.prl_plan.specs.Representable.{HasSmallShift}
use Rattle.prl_words.proofs.FirstItems.{first_more, all_first}
use Rattle.prl_words.proofs.sizes.shifts_are_small.Goals as goal

pub loop-op-preserved : goal.loop-op-preserved
loop-op-preserved c = first_more HasSmallShift c.args.ops.now c.loop-op.op-index c.op-item.result c.loop-op-test.true c.op-item.is c.loop-op.invariant c.shift_is_small.ensures

pub returns : goal.returns
returns c = all_first HasSmallShift c.args.ops.now c.loop-op.op-index c.loop-op-test.false c.loop-op.invariant
