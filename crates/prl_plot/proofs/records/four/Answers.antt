use Rattle.std.proofs.Common.{◌≡◌, ℕ, List, [], ◌∷◌, length, Some, arith, rules}
use Rattle.csv.specs.Records.{field_at, fields_of}
use Rattle.prl_plot.specs.Rows.{four}
use Rattle.prl_plot.proofs.records.four.Goals as goal

of_four : (xs : List (List ℕ)) (a b c d : List ℕ) → length xs ≡ 4 → field_at xs 0 ≡ Some a → field_at xs 1 ≡ Some b → field_at xs 2 ≡ Some c
    → field_at xs 3 ≡ Some d → Some (a, b, c, d) ≡ four xs
unfolding field_at
of_four [] a b c d n = absurd (omega arith)
of_four (x ∷ []) a b c d n = absurd (omega arith)
of_four (x ∷ y ∷ []) a b c d n = absurd (omega arith)
of_four (x ∷ y ∷ z ∷ []) a b c d n = absurd (omega arith)
of_four (x ∷ y ∷ z ∷ w ∷ []) a b c d n = λ p q r s. cc
of_four (x ∷ y ∷ z ∷ w ∷ v ∷ rest) a b c d n = absurd (omega arith)

pub returns : goal.returns
returns c = of_four (fields_of c.args.fields.now) c.field.result.now c.field-2.result.now c.field-3.result.now c.field-4.result.now (search rules)
    c.field.ensures c.field-2.ensures c.field-3.ensures c.field-4.ensures
