use Rattle.prl_base.proofs.Standard.{◌≡◌, ◌<◌, ◌≤◌, ◌^◌, ◌⊎◌, ℕ, length, slice_index}
use Rattle.prl_plan.specs.Jobs.{task_at}
use Rattle.prl_picture.proofs.defaults.latest_start.Given as goal

-- the start of the task of a row so far, which is small, and no row so far has a later one
abbrev pub invariant-loop-r : goal.invariant-loop-r
invariant-loop-r l = record {
  small : l.start < 2 ^ 32;
  late : (k : ℕ) → k < l.r → (task_at l.plan.graph (slice_index l.rows k)).clock.start ≤ l.start;
  of_row : (l.start ≡ 0) ⊎ ((k : ℕ) × (k < length l.rows) × (l.start ≡ (task_at l.plan.graph (slice_index l.rows k)).clock.start));
}
