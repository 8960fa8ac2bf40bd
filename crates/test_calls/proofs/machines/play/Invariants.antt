use Rattle.prl_track.specs.Machine.{Drives}
use Rattle.test_calls.proofs.machines.play.Given as goal

abbrev pub invariant-loop-k : goal.invariant-loop-k
invariant-loop-k l = Drives l.core.plan 1 0
