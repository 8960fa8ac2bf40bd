use Rattle.std.proofs.Common.{◌≡◌, ◌+◌, ◌≤◌, ℕ, slice_index}
use Rattle.prl_plan.specs.Horizons.{constants_of, sum_below}
use Rattle.prl_overlaps.specs.Vocabulary.{wcets_of, cost_at}
use Rattle.prl_overlaps.proofs.intervals.add_task.Given as goal

-- the jobs so far are added
abbrev pub invariant-loop-n : goal.invariant-loop-n
invariant-loop-n l = (a : ℕ) → a ≤ l.to → slice_index l.starts a ≡ slice_index l.fn.starts a + sum_below (cost_at (constants_of l.plan l.fn.horizon) (wcets_of l.plan) l.to a l.i.0) l.n
