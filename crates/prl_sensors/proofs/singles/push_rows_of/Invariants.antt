use Rattle.prl_sensors.proofs.OneActuator.{IsSoFar}
use Rattle.prl_sensors.proofs.singles.push_rows_of.Given as goal

abbrev pub invariant-loop-n : goal.invariant-loop-n
invariant-loop-n l = IsSoFar l.out l.initial.text.items l.n l.text.items
