use Rattle.std.proofs.Common.{◌<◌, ◌≤◌, ℕ}
use Rattle.prl_picture.specs.Ranges.{IsArrow}
use Rattle.prl_picture.proofs.defaults.arrow_end.Given as goal

-- the jobs that were passed have no arrow
abbrev pub invariant-loop-n : goal.invariant-loop-n
invariant-loop-n l = (k m : ℕ) → l.first ≤ k → k < l.n → IsArrow l.plan l.from l.limit l.e.0 l.task.0 k m → ⊥
