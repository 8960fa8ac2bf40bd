-- Operators on flows: the clock of the result, ranges, which of them delay, and which instance the result's instance is.
use Rattle.std.specs.Prelude.{◌≡◌, ◌+◌, ◌*◌, ◌/◌, ◌≤◌, ◌≤ℤ◌, ◌*ℤ◌, ℕ, zero, suc, ℤ, pos, negsuc, Bool, true, false, nat_abs, int_lt}
use lib.IntN.{suc_ℤ, pred_ℤ}
use Rattle.prl_base.specs.Values.{IsOfType}
use Rattle.prl_base.specs.declared.operators.Clock.{Clock}
use Rattle.prl_base.specs.declared.operators.Op.{Op}
use Rattle.prl_base.specs.declared.operators.Op.TheVariants as operators
use Rattle.prl_base.specs.declared.operators.TheConstants.{MAX_FACTOR}
use Rattle.prl_base.specs.declared.values.Ty.{Ty}
use Rattle.prl_base.specs.declared.values.Value.{Value}

-- The clock `y` of an operator's result, where `x` is the clock of the flow that it stands on.
abbrev pub IsResultClock : Op → Clock → Clock → Type 0
-- `c fby x`: the clock of x
IsResultClock (operators.Fby c) x y = (y.period ≡ x.period) × (y.start ≡ x.start)
-- `c :: x`: a period earlier
IsResultClock (operators.Cons c) x y = (y.period ≡ x.period) × (y.start + x.period ≡ x.start)
-- `tail x`: a period later
IsResultClock operators.Tail x y = (y.period ≡ x.period) × (y.start ≡ x.start + x.period)
-- `x *^ k`: k times as fast
IsResultClock (operators.Up k) x y = (k * y.period ≡ x.period) × (y.start ≡ x.start)
-- `x /^ k`: k times as slow
IsResultClock (operators.Down k) x y = (y.period ≡ k * x.period) × (y.start ≡ x.start)
-- `x ~> q`: later by q periods
IsResultClock (operators.Shift q) x y = (y.period ≡ x.period) × (q.den * y.start ≡ q.den * x.start + nat_abs q.num * x.period)

-- Ranges: a factor is 1 to 2^31 - 1, a shift is a fraction that is not negative, and a constant has the type of the flow.
abbrev pub IsOperatorFor : Ty → Op → Type 0
IsOperatorFor ty (operators.Fby c) = IsOfType ty c
IsOperatorFor ty (operators.Cons c) = IsOfType ty c
IsOperatorFor ty operators.Tail = Unit {0}
IsOperatorFor ty (operators.Up k) = (1 ≤ k) × (k ≤ MAX_FACTOR)
IsOperatorFor ty (operators.Down k) = (1 ≤ k) × (k ≤ MAX_FACTOR)
IsOperatorFor ty (operators.Shift q) = (1 ≤ q.den) × (pos 0 ≤ℤ q.num)

-- whether the result has only values of its flow that are of earlier dates: `fby`, and `~> q` with q above 0
abbrev pub delays : Op → Bool
delays (operators.Fby c) = true
delays (operators.Cons c) = false
delays operators.Tail = false
delays (operators.Up k) = false
delays (operators.Down k) = false
delays (operators.Shift q) = int_lt (pos 0) q.num

-- where a value of an operator's result comes from: an instance of the flow that it stands on, or its constant
pub data Origin : Type 0 where
  instance : ℕ → Origin
  constant : Value → Origin

-- what `c fby` and `c ::` put first
abbrev pub after_constant : Value → ℕ → Origin
after_constant c zero = constant c
after_constant c (suc n) = instance n

-- where instance n of an operator's result comes from
abbrev pub origin_of : Op → ℕ → Origin
origin_of (operators.Fby c) n = after_constant c n
origin_of (operators.Cons c) n = after_constant c n
origin_of operators.Tail n = instance (n + 1)
origin_of (operators.Up k) n = instance (n / k)
origin_of (operators.Down k) n = instance (k * n)
origin_of (operators.Shift q) n = instance n

-- the whole number just below or at n / k
abbrev pub floor_div : ℤ → ℕ → ℤ
floor_div (pos n) k = pos (n / k)
floor_div (negsuc n) k = negsuc (n / k)

-- the same over all whole numbers, where the first value is none that differs
abbrev pub preceding_number : Op → ℤ → ℤ
preceding_number (operators.Fby c) n = pred_ℤ n
preceding_number (operators.Cons c) n = pred_ℤ n
preceding_number operators.Tail n = suc_ℤ n
preceding_number (operators.Up k) n = floor_div n k
preceding_number (operators.Down k) n = pos k *ℤ n
preceding_number (operators.Shift q) n = n
