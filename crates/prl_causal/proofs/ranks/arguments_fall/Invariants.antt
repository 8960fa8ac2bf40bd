use Rattle.std.proofs.Common.{◌≡◌, ◌<◌, ℕ, Some, slice_get}
use Rattle.prl_flow.specs.declared.programs.App.{App}
use Rattle.prl_causal.specs.code.Ranks.{AreBelow, rank_at}
use Rattle.prl_causal.proofs.ranks.arguments_fall.Given as goal

abbrev pub invariant-loop-k : goal.invariant-loop-k
invariant-loop-k l = (j : ℕ) → j < l.k → (app : App) → slice_get l.apps j ≡ Some app → AreBelow app.args l.ranks.flows (rank_at l.ranks.apps j)
