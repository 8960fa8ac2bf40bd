-- The rows of a text are of the types of their inputs, and enough.
use Rattle.prl_base.proofs.Standard.{◌≡◌, ◌<◌, ◌≤◌, ℕ, zero, suc, ◌+◌, Bool, true, false, cond, ℤ, pos, negsuc, List, [], ◌∷◌, ◌++◌, length, Option, Some, None, Result, Ok, Err, refl, sym, subst, ◌∙◌}
use Rattle.prl_base.proofs.Standard.{arith, inl, inr, decimal, ◌==◌, ◌&&◌, if◌then◌else◌, option_map, option_and_then, FitsSigned, nat_lt, nat_le, cases_eq, leb-true, ltb-false, ltb-true}
use Rattle.prl_base.proofs.Standard.{get_or-set_at, get_or-set_other, length-map, slice_get_within}
use Rattle.std.proofs.Common.{bytes_eq}
use Rattle.std.specs.List.{slice_get}
use Rattle.std.specs.Int.{w64}
use Rattle.std.proofs.lemmas.List.{length-set}
use Rattle.prl_base.specs.Vocabulary.{decimal_of, integer_of, negative, positive, ◌>>=◌, IsOfType}
use Rattle.prl_base.specs.declared.decimals.TheConstants.{MAX_NEGATIVE, MAX_POSITIVE}
use Rattle.prl_base.specs.declared.values.Ty.{Ty}
use Rattle.prl_base.specs.declared.values.Value.{Value}
use Rattle.prl_base.specs.declared.values.Ty.TheVariants as types
use Rattle.prl_base.specs.declared.values.Value.TheVariants as values
use Rattle.prl_flow.specs.Rows.{Rows, rows_of}
use Rattle.prl_names.specs.Lookups.{index_of}
use Rattle.prl_sensors.proofs.Firsts.{some_is}
use Rattle.prl_sensors.specs.Facts.{AreRowsFor}
use Rattle.prl_sensors.specs.SensorRows.{Inputs, is_header, no_rows, records_of, sensors_of, short_of, three, truth_of, type_at, unless_short, value_of, with_fields, with_read, with_record, with_records, with_row, with_value}
use Rattle.prl_sensors.specs.declared.faults.SensorFault.{SensorFault}
use Rattle.prl_sensors.specs.declared.faults.SensorFault.TheVariants as faults

-- a list for each input, of values of its type
record AreTyped (inputs : Inputs) (rows : Rows) : Type 0 where
  lists : length rows ≡ length inputs.names
  types : (k n : ℕ) (value : Value) → slice_get (rows_of rows k) n ≡ Some value → IsOfType (type_at inputs.types k) value

ok_is : {A E : Type 0} (x y : A) → ◌≡◌ {A = Result A E} (Ok x) (Ok y) → x ≡ y
ok_is {A} {E} x y e = cc

positive_fits : (size : ℕ) (n : ℤ) → positive size ≡ Some n → FitsSigned w64 n
positive_fits size n =
    elim (nat_le size MAX_POSITIVE) as (λ b. nat_le size MAX_POSITIVE ≡ b → cond b (Some (pos size)) None ≡ Some n → FitsSigned w64 n) [
      | true ↦ λ t e. let small = leb-true size MAX_POSITIVE t in subst (FitsSigned w64) (some_is (pos size) n e) (record { sfits = omega (arith, small) })
      | false ↦ λ t e. cc
    ] refl

negative_fits : (size : ℕ) (n : ℤ) → negative size ≡ Some n → FitsSigned w64 n
negative_fits zero n e = subst (FitsSigned w64) (some_is (pos 0) n e) (record { sfits = omega arith })
negative_fits (suc k) n e =
    elim (nat_lt k MAX_NEGATIVE) as (λ b. nat_lt k MAX_NEGATIVE ≡ b → cond b (Some (negsuc k)) None ≡ Some n → FitsSigned w64 n) [
      | true ↦ λ t e. let small = ltb-true k MAX_NEGATIVE t in subst (FitsSigned w64) (some_is (negsuc k) n e) (record { sfits = omega (arith, small) })
      | false ↦ λ t e. cc
    ] refl e

then_fits : (f : ℕ → Option ℤ) (o : Option ℕ) (n : ℤ) → ((size : ℕ) → f size ≡ Some n → FitsSigned w64 n)
    → option_and_then f o ≡ Some n → FitsSigned w64 n
then_fits f None n fits e = cc
then_fits f (Some size) n fits e = fits size e

integer_fits : (text : List ℕ) (n : ℤ) → integer_of text ≡ Some n → FitsSigned w64 n
integer_fits [] n = λ e. cc
integer_fits (b ∷ bs) n =
    elim (b == 45) as (λ m. cond m (option_and_then negative (decimal_of bs)) (option_and_then positive (decimal_of (b ∷ bs))) ≡ Some n → FitsSigned w64 n) [
      | true ↦ then_fits negative (decimal_of bs) n (λ size. negative_fits size n)
      | false ↦ then_fits positive (decimal_of (b ∷ bs)) n (λ size. positive_fits size n)
    ]

of_number : (text : List ℕ) (o : Option ℤ) (value : Value) → integer_of text ≡ o → option_map values.Int o ≡ Some value → IsOfType types.Int value
of_number text None value is e = cc
of_number text (Some n) value is e = subst (IsOfType types.Int) (some_is (values.Int n) value e) (refl, integer_fits text n is)

of_truth : (o : Option Bool) (value : Value) → option_map values.Bool o ≡ Some value → IsOfType types.Bool value
of_truth None value e = cc
of_truth (Some b) value e = subst (IsOfType types.Bool) (some_is (values.Bool b) value e) (refl, tt)

of_its_type : (ty : Ty) (text : List ℕ) (value : Value) → value_of ty text ≡ Some value → IsOfType ty value
of_its_type types.Int text value e = of_number text (integer_of text) value refl e
of_its_type types.Bool text value e = of_truth (truth_of text) value e

-- a value of a list with one more is one of the list, or the last
in_more : (P : Value → Type 0) (xs : List Value) (last : Value) (n : ℕ) (value : Value)
    → ((k : ℕ) (x : Value) → slice_get xs k ≡ Some x → P x) → P last → slice_get (xs ++ last ∷ []) n ≡ Some value → P value
in_more P [] last zero value all one e = subst P (some_is last value e) one
in_more P [] last (suc n) value all one e = cc
in_more P (x ∷ xs) last zero value all one e = all 0 value e
in_more P (x ∷ xs) last (suc n) value all one e = in_more P xs last n value (λ k. all (suc k)) one e

more_typed : (inputs : Inputs) (rows : Rows) (k : ℕ) (value : Value) → AreTyped inputs rows → k < length rows
    → IsOfType (type_at inputs.types k) value → AreTyped inputs (with_value rows k value)
more_typed inputs rows k value typed below is = record {
  lists = length-set rows k (rows_of rows k ++ value ∷ []) ∙ typed.lists;
  types = λ j n x at. elim (cases_eq j k) [
    | inl same ↦
        let more = get_or-set_at rows k j (rows_of rows k ++ value ∷ []) [] same below in
        let here = rw more at at in
        subst (λ i. IsOfType (type_at inputs.types i) x) (sym same) (in_more (IsOfType (type_at inputs.types k)) (rows_of rows k) value n x (typed.types k) is here)
    | inr other ↦
        let as_was = get_or-set_other rows k j (rows_of rows k ++ value ∷ []) [] other in
        typed.types j n x (rw as_was at at)
  ];
}

read_typed : (inputs : Inputs) (number : ℕ) (rows more : Rows) (k : ℕ) (text : List ℕ) (o : Option Value) → value_of (type_at inputs.types k) text ≡ o
    → AreTyped inputs rows → k < length rows → with_read number rows k o ≡ Ok more → AreTyped inputs more
read_typed inputs number rows more k text None is typed below e = cc
read_typed inputs number rows more k text (Some value) is typed below e =
    subst (AreTyped inputs) (ok_is (with_value rows k value) more e) (more_typed inputs rows k value typed below (of_its_type (type_at inputs.types k) text value is))

row_typed : (inputs : Inputs) (number : ℕ) (rows more : Rows) (input : Option ℕ) (instance text : List ℕ)
    → ((k : ℕ) → input ≡ Some k → k < length rows)
    → AreTyped inputs rows → with_row inputs.types number rows input instance text ≡ Ok more → AreTyped inputs more
row_typed inputs number rows more None instance text below typed = λ e. cc
row_typed inputs number rows more (Some k) instance text below typed =
    elim (bytes_eq instance (decimal (length (rows_of rows k)))) as (λ b. cond b (with_read number rows k (value_of (type_at inputs.types k) text)) (Err (faults.Order number)) ≡ Ok more → AreTyped inputs more) [
      | true ↦ read_typed inputs number rows more k text (value_of (type_at inputs.types k) text) refl typed (below k refl)
      | false ↦ λ e. cc
    ]

-- an index of a name is one of the list
abbrev HaveIndices : Type 0
HaveIndices = (names : List (List ℕ)) (name : List ℕ) (index : ℕ) → index_of names name ≡ Some index → slice_get names index ≡ Some name

fields_typed : HaveIndices → (inputs : Inputs) (number : ℕ) (rows more : Rows) (fields : Option (List ℕ × List ℕ × List ℕ))
    → AreTyped inputs rows → with_fields inputs number rows fields ≡ Ok more → AreTyped inputs more
fields_typed have inputs number rows more None typed e = cc
fields_typed have inputs number rows more (Some (name, instance, text)) typed e =
    row_typed inputs number rows more (index_of inputs.names name) instance text
    (λ k is. subst (λ n. k < n) (sym typed.lists) (slice_get_within inputs.names k name (have inputs.names name k is))) typed e

record_typed : HaveIndices → (inputs : Inputs) (number : ℕ) (rows more : Rows) (fields : List (List ℕ))
    → AreTyped inputs rows → with_record inputs number rows fields ≡ Ok more → AreTyped inputs more
unfolding with_record
record_typed have inputs number rows more fields typed =
    elim ((number == 1) && is_header (three fields)) as (λ b. cond b (Ok rows) (with_fields inputs number rows (three fields)) ≡ Ok more → AreTyped inputs more) [
      | true ↦ λ e. subst (AreTyped inputs) (ok_is rows more e) typed
      | false ↦ fields_typed have inputs number rows more (three fields) typed
    ]

records_typed : HaveIndices → (inputs : Inputs) (number : ℕ) (rows more : Rows) (left : List (List (List ℕ)))
    → AreTyped inputs rows → with_records inputs number rows left ≡ Ok more → AreTyped inputs more
records_typed have inputs number rows more [] typed = λ e. subst (AreTyped inputs) (ok_is rows more e) typed
records_typed have inputs number rows more (fields ∷ left) typed =
    elim (with_record inputs number rows fields) as (λ r. with_record inputs number rows fields ≡ r → (r >>= λ next. with_records inputs (number + 1) next left) ≡ Ok more → AreTyped inputs more) [
      | Ok next ↦ λ is e. records_typed have inputs (number + 1) next more left (record_typed have inputs number rows next fields typed is) e
      | Err fault ↦ λ is e. cc
    ] refl

none_typed : (inputs : Inputs) → AreTyped inputs (no_rows inputs.names)
none_typed inputs = record {
  lists = length-map inputs.names (λ (name : List ℕ). []);
  types = λ k n value at. absurd (nothing inputs.names k n value at);
}
  where
    nothing : (names : List (List ℕ)) (k n : ℕ) (value : Value) → slice_get (rows_of (no_rows names) k) n ≡ Some value → ⊥
    nothing [] k n value at = cc
    nothing (name ∷ names) zero n value at = cc
    nothing (name ∷ names) (suc k) n value at = nothing names k n value at

not_short : (name : List ℕ) (need : ℕ) (row : List Value) (rest : Option SensorFault)
    → (if nat_lt (length row) need then Some (faults.Short name (length row) need) else rest) ≡ None → (need ≤ length row) × (rest ≡ None)
not_short name need row rest =
    elim (nat_lt (length row) need) as (λ t. nat_lt (length row) need ≡ t → cond t (Some (faults.Short name (length row) need)) rest ≡ None → (need ≤ length row) × (rest ≡ None)) [
      | true ↦ λ t e. cc
      | false ↦ λ t e. (ltb-false (length row) need t, e)
    ] refl

enough : (names : List (List ℕ)) (needs : List ℕ) (rows : Rows) → length needs ≡ length names → length rows ≡ length names
    → short_of names needs rows ≡ None → (k need : ℕ) → slice_get needs k ≡ Some need → need ≤ length (rows_of rows k)
enough [] [] rows a b none k need at = cc
enough [] (d ∷ ds) rows a b none k need at = absurd (omega arith)
enough (n ∷ ns) [] rows a b none k need at = absurd (omega arith)
enough (n ∷ ns) (d ∷ ds) [] a b none k need at = absurd (omega arith)
enough (n ∷ ns) (d ∷ ds) (r ∷ rs) a b none zero need at = subst (λ m. m ≤ length r) (some_is d need at) (not_short n d r (short_of ns ds rs) none).0
enough (n ∷ ns) (d ∷ ds) (r ∷ rs) a b none (suc k) need at =
    enough ns ds rs (omega arith) (omega arith) (not_short n d r (short_of ns ds rs) none).1 k need at

rows_are : (inputs : Inputs) (needs : List ℕ) (rows more : Rows) (short : Option SensorFault) → short_of inputs.names needs rows ≡ short
    → length needs ≡ length inputs.names → AreTyped inputs rows → unless_short rows short ≡ Ok more → AreRowsFor inputs needs more
rows_are inputs needs rows more (Some fault) is same typed e = cc
rows_are inputs needs rows more None is same typed e =
    subst (AreRowsFor inputs needs) (ok_is rows more e)
    (record { lists = typed.lists; types = typed.types; enough = enough inputs.names needs rows same typed.lists is })

pub rows_of_text : HaveIndices → (inputs : Inputs) (needs text : List ℕ) (rows : Rows) → length needs ≡ length inputs.names
    → sensors_of inputs needs text ≡ Ok rows → AreRowsFor inputs needs rows
rows_of_text have inputs needs text rows same =
    elim (with_records inputs 1 (no_rows inputs.names) (records_of text))
    as (λ r. with_records inputs 1 (no_rows inputs.names) (records_of text) ≡ r → (r >>= λ read. unless_short read (short_of inputs.names needs read)) ≡ Ok rows → AreRowsFor inputs needs rows) [
      | Ok read ↦ λ is e.
          rows_are inputs needs read rows (short_of inputs.names needs read) refl same
          (records_typed have inputs 1 (no_rows inputs.names) read (records_of text) (none_typed inputs) is) e
      | Err fault ↦ λ is e. cc
    ] refl
