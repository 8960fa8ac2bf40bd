use Rattle.std.proofs.Common.{◌≡◌, ◌<◌, ◌≤◌, ℕ, Some, slice_get}
use Rattle.prl_causal.specs.code.Ranks.{rank_at, source_rank}
use Rattle.prl_causal.specs.declared.sources.Source.{Source}
use Rattle.prl_causal.proofs.ranks.sources_fall.Given as goal

abbrev pub invariant-loop-i : goal.invariant-loop-i
invariant-loop-i l = (j : ℕ) → j < l.i → (source : Source) → slice_get l.sources j ≡ Some source → source_rank l.ranks source ≤ rank_at l.ranks.flows j
