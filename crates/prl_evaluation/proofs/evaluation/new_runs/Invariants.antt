use Rattle.std.proofs.Common.{◌≡◌, ℕ, Some, length, slice_get}
use Rattle.prl_flow.specs.declared.programs.App.{App}
use Rattle.prl_evaluation.specs.Vocabulary.{IsNew, Run}
use Rattle.prl_evaluation.proofs.evaluation.new_runs.Given as goal

abbrev pub invariant-loop-app : goal.invariant-loop-app
invariant-loop-app l =
    (length l.runs.items ≡ l.app-index)
    × ((k : ℕ) (app : App) (r : Run) → slice_get l.apps k ≡ Some app → slice_get l.runs.items k ≡ Some r → IsNew l.bodies app r)
