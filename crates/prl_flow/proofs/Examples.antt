-- What each operator makes of a flow of period 10 with the values 1, 2, 3, 4, 5, 6.
use Rattle.std.proofs.Common.{◌≡◌, ℕ, pos, List, [], ◌∷◌, map, Option, Some, refl}
use Rattle.prl_base.specs.Clocks.{date_at}
use Rattle.prl_base.specs.declared.operators.Clock.{Clock}
use Rattle.prl_base.specs.declared.operators.Op.{Op}
use Rattle.prl_base.specs.declared.values.Value.{Value}
use Rattle.prl_base.specs.declared.operators.Op.TheVariants as operators
use Rattle.prl_base.specs.declared.values.Value.TheVariants as values
use Rattle.prl_flow.specs.Flows.{value_of_operator}

abbrev every : ℕ → ℕ → Clock
every period start = record { period = period; start = start }

abbrev numbers : List ℕ → List Value
numbers ns = map (λ (n : ℕ). values.Int (pos n)) ns

-- the first five values of the result on the clock `y`, where the flow has the clock `x`
abbrev first_five : Op → Clock → Clock → List (Option Value)
first_five op x y =
    map (λ (k : ℕ). value_of_operator op x (numbers (1 ∷ 2 ∷ 3 ∷ 4 ∷ 5 ∷ 6 ∷ [])) y.start (date_at y k)) (0 ∷ 1 ∷ 2 ∷ 3 ∷ 4 ∷ [])

abbrev some : List ℕ → List (Option Value)
some ns = map (λ (n : ℕ). Some (values.Int (pos n))) ns

-- `9 fby x`
pub delayed : first_five (operators.Fby (values.Int (pos 9))) (every 10 0) (every 10 0) ≡ some (9 ∷ 1 ∷ 2 ∷ 3 ∷ 4 ∷ [])
delayed = refl

-- `9 :: x`, where x begins at 10
pub constant_in_front : first_five (operators.Cons (values.Int (pos 9))) (every 10 10) (every 10 0) ≡ some (9 ∷ 1 ∷ 2 ∷ 3 ∷ 4 ∷ [])
constant_in_front = refl

-- `tail x`
pub without_the_first : first_five operators.Tail (every 10 0) (every 10 10) ≡ some (2 ∷ 3 ∷ 4 ∷ 5 ∷ 6 ∷ [])
without_the_first = refl

-- `x *^ 3`, where x has the period 30
pub three_times_as_fast : first_five (operators.Up 3) (every 30 0) (every 10 0) ≡ some (1 ∷ 1 ∷ 1 ∷ 2 ∷ 2 ∷ [])
three_times_as_fast = refl

-- `x /^ 2`, where x has the period 2
pub half_as_fast : map (λ (k : ℕ). value_of_operator (operators.Down 2) (every 2 0) (numbers (1 ∷ 2 ∷ 3 ∷ 4 ∷ [])) 0 (date_at (every 4 0) k)) (0 ∷ 1 ∷ []) ≡ some (1 ∷ 3 ∷ [])
half_as_fast = refl

-- `x ~> 3/2`
pub one_and_a_half_later : first_five (operators.Shift (record { num = pos 3; den = 2 })) (every 10 0) (every 10 15) ≡ some (1 ∷ 2 ∷ 3 ∷ 4 ∷ 5 ∷ [])
one_and_a_half_later = refl
