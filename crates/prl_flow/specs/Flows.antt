-- Flows by date: what a flow is, and what each operator makes of one. No instance number occurs in the operators.
use Rattle.std.specs.Prelude.{◌≡◌, ◌-◌, ◌*◌, ◌/◌, ◌==◌, ◌<◌, ◌↔◌, ℕ, List, length, Option, Some, slice_get, nat_abs, if◌then◌else◌}
use Rattle.prl_base.specs.Clocks.{date_at, IsDate}
use Rattle.prl_base.specs.Operators.{IsResultClock}
use Rattle.prl_base.specs.Ratios.{Fraction}
use Rattle.prl_base.specs.declared.operators.Clock.{Clock}
use Rattle.prl_base.specs.declared.operators.Op.{Op}
use Rattle.prl_base.specs.declared.operators.Op.TheVariants as operators
use Rattle.prl_base.specs.declared.values.Value.{Value}
use Rattle.prl_ast.specs.declared.declarations.Rate.{Rate}

-- the clock that a rate declares: its period, and a start of so many periods as its phase says
abbrev pub IsClockOf : Rate → Clock → Type 0
IsClockOf rate c = (c.period ≡ rate.period) × (rate.phase.den * c.start ≡ nat_abs rate.phase.num * rate.period)

-- a flow up to a date has one value for each date of its clock before it, in order
abbrev pub IsUpTo : ℕ → Clock → List Value → Type 0
IsUpTo until c values = (k : ℕ) → (k < length values) ↔ (date_at c k < until)

-- the value of a flow at a date; between two dates, at the last one before
abbrev pub value_at : Clock → List Value → ℕ → Option Value
value_at c values t = slice_get values ((t - c.start) / c.period)

-- by how much `~> q` delays a flow of this period
abbrev pub delay : Fraction → ℕ → ℕ
delay q period = nat_abs q.num * period / q.den

-- The value of an operator's result at its date `t`, where `first` is its first date and the flow that it stands on
-- has the clock `x` and these values.
abbrev pub value_of_operator : Op → Clock → List Value → ℕ → ℕ → Option Value
-- the constant first, and then the value of x a period before
value_of_operator (operators.Fby c) x values first t = if t == first then Some c else value_at x values (t - x.period)
-- the constant first, and then the value of x
value_of_operator (operators.Cons c) x values first t = if t == first then Some c else value_at x values t
-- the value of x
value_of_operator operators.Tail x values first t = value_at x values t
-- what x has at the latest of its dates up to t
value_of_operator (operators.Up k) x values first t = value_at x values t
-- the value of x
value_of_operator (operators.Down k) x values first t = value_at x values t
-- the value of x, q periods before
value_of_operator (operators.Shift q) x values first t = value_at x values (t - delay q x.period)

-- The operator makes the flow `results` on `y` of the flow `values` on `x`.
pub record OperatorByDate (op : Op) (x : Clock) (values : List Value) (y : Clock) (results : List Value) (until : ℕ) : Type 0 where
  pub clock : IsResultClock op x y
  pub up_to : IsUpTo until y results
  pub each : (t : ℕ) → IsDate y t → t < until → value_at y results t ≡ value_of_operator op x values y.start t
