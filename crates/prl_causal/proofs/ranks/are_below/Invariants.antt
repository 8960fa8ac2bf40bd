use Rattle.std.proofs.Common.{◌≡◌, ◌<◌, ◌≤◌, ℕ, Some, slice_get}
use Rattle.prl_flow.specs.declared.programs.Arg.{Arg}
use Rattle.prl_causal.specs.code.Ranks.{rank_at}
use Rattle.prl_causal.proofs.ranks.are_below.Given as goal

abbrev pub invariant-loop-arg : goal.invariant-loop-arg
invariant-loop-arg l = (j : ℕ) → j < l.arg-index → (arg : Arg) → slice_get l.args j ≡ Some arg → rank_at l.ranks arg.flow.0 ≤ l.most
