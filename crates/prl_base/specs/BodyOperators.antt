-- The values of operators. Integers wrap in 64 bits. A value of a wrong type, which no checked body has, counts as
-- 0 or as false.
use Rattle.std.specs.Prelude.{zero, suc, ℤ, pos, negsuc, neg_ℤ, ◌+ℤ◌, ◌-ℤ◌, ◌*ℤ◌, Bool, true, false, not, ◌&&◌, ◌||◌, int_div, int_lt, int_le}
use Rattle.std.specs.Int.{w64, int_wrap}
use Rattle.std.specs.Ordering.{int_eq}
use Rattle.prl_base.specs.declared.values.Value.{Value}
use Rattle.prl_base.specs.declared.values.Value.TheVariants as values
use Rattle.prl_base.specs.declared.body_operators.Operator.{Operator}
use Rattle.prl_base.specs.declared.body_operators.Operator.TheVariants as operators
use Rattle.prl_base.specs.declared.body_operators.Prefix.{Prefix}
use Rattle.prl_base.specs.declared.body_operators.Prefix.TheVariants as prefixes

abbrev pub number_of : Value → ℤ
number_of (values.Int number) = number
number_of (values.Bool truth) = pos 0

abbrev pub truth_of : Value → Bool
truth_of (values.Int number) = false
truth_of (values.Bool truth) = truth

-- what is left of a number in 64 bits
abbrev pub wrapped : ℤ → ℤ
wrapped z = int_wrap w64 z

-- toward zero; 0 where the divisor is 0
abbrev pub quotient : ℤ → ℤ → ℤ
quotient a (pos zero) = pos 0
quotient a (pos (suc b)) = wrapped (int_div a (pos (suc b)))
quotient a (negsuc b) = wrapped (int_div a (negsuc b))

-- a - (a / b) * b
abbrev pub remainder : ℤ → ℤ → ℤ
remainder a b = wrapped (a -ℤ wrapped (quotient a b *ℤ b))

abbrev pub exactly_one : Bool → Bool → Bool
exactly_one true b = not b
exactly_one false b = b

abbrev pub is_same : Value → Value → Bool
is_same (values.Int a) (values.Int b) = int_eq a b
is_same (values.Int a) (values.Bool b) = false
is_same (values.Bool a) (values.Int b) = false
is_same (values.Bool a) (values.Bool b) = not (exactly_one a b)

abbrev pub result_of : Operator → Value → Value → Value
result_of operators.Or a b = values.Bool (truth_of a || truth_of b)
result_of operators.Xor a b = values.Bool (exactly_one (truth_of a) (truth_of b))
result_of operators.And a b = values.Bool (truth_of a && truth_of b)
result_of operators.Equal a b = values.Bool (is_same a b)
result_of operators.Unequal a b = values.Bool (not (is_same a b))
result_of operators.Less a b = values.Bool (int_lt (number_of a) (number_of b))
result_of operators.AtMost a b = values.Bool (int_le (number_of a) (number_of b))
result_of operators.Greater a b = values.Bool (int_lt (number_of b) (number_of a))
result_of operators.AtLeast a b = values.Bool (int_le (number_of b) (number_of a))
result_of operators.Plus a b = values.Int (wrapped (number_of a +ℤ number_of b))
result_of operators.Minus a b = values.Int (wrapped (number_of a -ℤ number_of b))
result_of operators.Times a b = values.Int (wrapped (number_of a *ℤ number_of b))
result_of operators.Over a b = values.Int (quotient (number_of a) (number_of b))
result_of operators.Modulo a b = values.Int (remainder (number_of a) (number_of b))

abbrev pub prefixed : Prefix → Value → Value
prefixed prefixes.Not a = values.Bool (not (truth_of a))
prefixed prefixes.Negated a = values.Int (wrapped (neg_ℤ (number_of a)))
