use Rattle.std.proofs.Common.{◌≡◌, ◌+◌, ◌≤◌, ℕ, length, slice_index}
use Rattle.prl_plan.specs.Horizons.{constants_of, sum_below}
use Rattle.prl_overlaps.specs.Vocabulary.{wcets_of, cost_at}
use Rattle.prl_overlaps.proofs.intervals.starts.Given as goal

-- the tasks so far are added
abbrev pub invariant-loop-i : goal.invariant-loop-i
invariant-loop-i l = record {
  long : length l.starts.items ≡ l.to + 1;
  sums : (a : ℕ) → a ≤ l.to → slice_index l.starts.items a
      ≡ sum_below (λ j. sum_below (cost_at (constants_of l.plan l.horizon) (wcets_of l.plan) l.to a j) ((constants_of l.plan l.horizon).jobs j)) l.i;
}
