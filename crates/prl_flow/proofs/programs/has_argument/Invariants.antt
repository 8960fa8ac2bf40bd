use Rattle.prl_base.proofs.Standard.{◌≡◌, ◌<◌, ℕ, Some, slice_get}
use Rattle.prl_flow.specs.declared.programs.Arg.{Arg}
use Rattle.prl_flow.proofs.programs.has_argument.Given as goal

abbrev pub invariant-loop-index : goal.invariant-loop-index
invariant-loop-index l = (k : ℕ) (arg : Arg) → k < l.index → slice_get l.args k ≡ Some arg → arg.flow.0 ≡ l.flow → ⊥
