use Rattle.std.proofs.Common.{◌≡◌, ◌<◌, ℕ, length, slice_index_or}
use Rattle.prl_base.specs.Operators.{origin_of}
use Rattle.prl_causal.specs.Tables.{nothing, taken}
use Rattle.prl_evaluation.proofs.columns.operator_values.Given as goal

abbrev pub invariant-loop-n : goal.invariant-loop-n
invariant-loop-n l =
    (length l.values.items ≡ l.n)
    × ((m : ℕ) → m < l.n → slice_index_or l.values.items m nothing ≡ taken (λ j. slice_index_or l.of j nothing) (origin_of l.op m))
