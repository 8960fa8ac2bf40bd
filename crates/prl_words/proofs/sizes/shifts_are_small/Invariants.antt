use Rattle.prl_plan.specs.Representable.{HasSmallShift}
use Rattle.prl_words.proofs.FirstItems.{FirstAre}
use Rattle.prl_words.proofs.sizes.shifts_are_small.Given as goal

abbrev pub invariant-loop-op : goal.invariant-loop-op
invariant-loop-op l = FirstAre HasSmallShift l.ops l.op-index
