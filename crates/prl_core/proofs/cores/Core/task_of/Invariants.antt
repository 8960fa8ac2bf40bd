use Rattle.std.proofs.Common.{◌<◌, ℕ}
use Rattle.prl_track.specs.Machine.{Drives}
use Rattle.prl_core.proofs.cores.Core.task_of.Given as goal

-- no task so far drives the actuator
abbrev pub invariant-loop-i : goal.invariant-loop-i
invariant-loop-i l = (j : ℕ) → j < l.i → Drives l.self.plan j l.actuator → ⊥
