-- What is read for the next value is there.
use Rattle.prl_base.proofs.Standard.{◌≡◌, ◌+◌, ◌*◌, ◌/◌, ◌<◌, ℕ, zero, suc, List, [], ◌∷◌, length, Some, slice_get, refl, arith, slice_get_within}
use Rattle.prl_base.specs.Operators.{IsOperatorFor, instance, origin_of}
use Rattle.prl_base.specs.declared.operators.Op.{Op}
use Rattle.prl_base.specs.declared.values.Ty.{Ty}
use Rattle.prl_base.specs.declared.values.Value.{Value}
use Rattle.prl_base.specs.declared.operators.Op.TheVariants as operators
use Rattle.prl_flow.specs.Vocabulary.{FlatProgram, HasInstance, IsWellDefined, Rows, rows_of}
use Rattle.prl_flow.specs.declared.programs.Def.{Def}
use Rattle.prl_flow.specs.declared.programs.Def.TheVariants as definitions
use Rattle.prl_causal.specs.Tables.{Reads}
use Rattle.prl_evaluation.specs.code.Fronts.{IsPlain, IsReady, IsThere, len}

-- an operator's result has an instance where what it reads is there
has_instance : (ty : Ty) (op : Op) (count n : ℕ) → IsOperatorFor ty op → ((m : ℕ) → origin_of op n ≡ instance m → m < count) → HasInstance op count n
has_instance ty (operators.Fby c) count zero fits there = omega arith
has_instance ty (operators.Fby c) count (suc n) fits there = let h = there n refl in omega (arith, h)
has_instance ty (operators.Cons c) count zero fits there = omega arith
has_instance ty (operators.Cons c) count (suc n) fits there = let h = there n refl in omega (arith, h)
has_instance ty operators.Tail count n fits there = there (n + 1) refl
has_instance ty (operators.Up k) count n fits there = (fits.0, there (n / k) refl)
has_instance ty (operators.Down k) count n fits there = there (k * n) refl
has_instance ty (operators.Shift q) count n fits there = there n refl

-- a sensor with a row at a number has rows
row_there : (rows : Rows) (k n : ℕ) → n < length (rows_of rows k) → k < length rows
row_there [] k n below = absurd (omega (arith, below))
row_there (xs ∷ rows) zero n below = omega arith
row_there (xs ∷ rows) (suc k) n below = let rest = row_there rows k n below in omega (arith, rest)

-- what a definition reads for its flow's instance n is there
pub is_there_at : (p : FlatProgram) (rows : Rows) (flows : List (List Value)) (i : ℕ) (ty : Ty) (def : Def) (n : ℕ) → IsWellDefined p i ty def → length flows ≡ length p.flows
    → ((k : ℕ) → slice_get p.ins k ≡ Some (record { 0 = i }) → n < length (rows_of rows k))
    → ((j m : ℕ) → Reads p def n j m → m < len flows j) → IsPlain def → IsThere rows flows def n
is_there_at p rows flows i ty (definitions.Sensor k) n defined count row reads plain = (row_there rows k n (row k defined), row k defined)
is_there_at p rows flows i ty (definitions.Copy of) n defined count row reads plain =
    let inside = slice_get_within p.flows of.0 defined.0 defined.1 in
    (omega (arith, inside, count), reads of.0 n (refl, refl))
is_there_at p rows flows i ty (definitions.Const v) n defined count row reads plain = tt
is_there_at p rows flows i ty (definitions.Apply app out) n defined count row reads plain = absurd plain
is_there_at p rows flows i ty (definitions.Op op of) n (typed, fits) count row reads plain =
    let inside = slice_get_within p.flows of.0 typed.0 typed.1 in
    (omega (arith, inside, count), has_instance ty op (len flows of.0) n fits (λ m origin. reads of.0 m (refl, origin)))

pub is_there : (p : FlatProgram) (rows : Rows) (flows : List (List Value)) (i : ℕ) (ty : Ty) (def : Def) → IsWellDefined p i ty def → length flows ≡ length p.flows
    → ((k : ℕ) → slice_get p.ins k ≡ Some (record { 0 = i }) → len flows i < length (rows_of rows k))
    → IsReady p flows i def → IsPlain def → IsThere rows flows def (len flows i)
is_there p rows flows i ty def defined count row ready plain =
    is_there_at p rows flows i ty def (len flows i) defined count row ready.reads plain
