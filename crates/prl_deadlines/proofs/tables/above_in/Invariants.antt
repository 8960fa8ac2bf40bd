use Rattle.std.proofs.Common.{◌+◌, ◌<◌, ◌≤◌, ℕ, slice_index}
use Rattle.prl_deadlines.proofs.tables.above_in.Given as goal

abbrev pub invariant-loop-p : goal.invariant-loop-p
invariant-loop-p l = (p : ℕ) → p < l.p → slice_index l.high (l.first + p) ≤ slice_index l.low (l.first + p)
