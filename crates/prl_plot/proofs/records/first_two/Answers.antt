use Rattle.std.proofs.Common.{◌≡◌, ◌≤◌, ℕ, List, [], ◌∷◌, length, Some, arith, rules}
use Rattle.csv.specs.Records.{field_at, fields_of}
use Rattle.prl_plot.specs.Rows.{first_two}
use Rattle.prl_plot.proofs.records.first_two.Goals as goal

of_two : (xs : List (List ℕ)) (a b : List ℕ) → 2 ≤ length xs → field_at xs 0 ≡ Some a → field_at xs 1 ≡ Some b → Some (a, b) ≡ first_two xs
unfolding field_at
of_two [] a b n = absurd (omega arith)
of_two (x ∷ []) a b n = absurd (omega arith)
of_two (x ∷ y ∷ rest) a b n = λ p q. cc

pub returns : goal.returns
returns c = of_two (fields_of c.args.fields.now) c.field.result.now c.field-2.result.now (search rules) c.field.ensures c.field-2.ensures
