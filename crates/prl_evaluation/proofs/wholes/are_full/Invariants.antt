use Rattle.std.proofs.Common.{◌≡◌, ◌<◌, ℕ, Some, slice_get}
use Rattle.prl_flow.specs.declared.programs.Arg.{Arg}
use Rattle.prl_evaluation.specs.code.Dates.{IsFull}
use Rattle.prl_evaluation.proofs.wholes.are_full.Given as goal

abbrev pub invariant-loop-arg : goal.invariant-loop-arg
invariant-loop-arg l = (j : ℕ) (arg : Arg) → j < l.arg-index → slice_get l.args j ≡ Some arg → IsFull l.setting l.flows arg.flow.0
