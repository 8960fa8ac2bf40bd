-- Flows by instance: the values that each operator makes, by their numbers.
use Rattle.std.specs.Prelude.{◌≡◌, ◌+◌, ◌*◌, ◌/◌, ◌<◌, ◌≤◌, ℕ, pos, List, length, map, Option, Some, slice_get, slice_index_or}
use Rattle.prl_base.specs.Operators.{Origin, instance, constant, origin_of}
use Rattle.prl_base.specs.declared.operators.Op.{Op}
use Rattle.prl_base.specs.declared.operators.Op.TheVariants as operators
use Rattle.prl_base.specs.declared.values.Value.{Value}
use Rattle.prl_base.specs.declared.values.Value.TheVariants as values

-- the value that an operator takes from here, where the flow that it stands on has these values
abbrev pub value_from : List Value → Origin → Option Value
value_from values (instance n) = slice_get values n
value_from values (constant c) = Some c

-- the value of an operator's instance `j`, from the values of the flow that it stands on
abbrev pub instance_of_operator : Op → List Value → ℕ → Option Value
instance_of_operator op values j = value_from values (origin_of op j)

-- the operator's result has instance `n`, where the flow that it stands on has so many values
abbrev pub HasInstance : Op → ℕ → ℕ → Type 0
HasInstance (operators.Fby c) count n = n ≤ count
HasInstance (operators.Cons c) count n = n ≤ count
HasInstance operators.Tail count n = n + 1 < count
HasInstance (operators.Up k) count n = (1 ≤ k) × (n / k < count)
HasInstance (operators.Down k) count n = k * n < count
HasInstance (operators.Shift q) count n = n < count

-- these are the values of the first `count` instances
pub record AreFirst (instance : ℕ → Option Value) (count : ℕ) (values : List Value) : Type 0 where
  pub number : length values ≡ count
  pub each : (j : ℕ) → j < count → slice_get values j ≡ instance j

-- the denominator of a shift is not 0
abbrev pub IsDenominated : Op → Type 0
IsDenominated (operators.Shift q) = 1 ≤ q.den
IsDenominated _ = Unit {0}

-- the values of instance n of flows
abbrev pub instance_values : List (List Value) → ℕ → List Value
instance_values flows n = map (λ (xs : List Value). slice_index_or xs n (values.Int (pos 0))) flows
