use Rattle.std.specs.Prelude.{◌≡◌, ◌<◌, ℕ, Some, slice_get}
use Rattle.prl_seats.specs.declared.jobs.Stage.TheVariants as stages
use Rattle.prl_seats.specs.JobSeats.{JobSeatView}
use Rattle.prl_exec.proofs.alone.is_over.Given as goal

-- the tasks so far are over
abbrev pub invariant-loop-i : goal.invariant-loop-i
invariant-loop-i l = (j : ℕ) (s : JobSeatView) → j < l.i → slice_get l.lone.seats j ≡ Some s → s.stage ≡ stages.Over
