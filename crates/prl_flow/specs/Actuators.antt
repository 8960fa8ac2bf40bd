-- The text that a run of the actuators writes.
use Rattle.std.specs.Prelude.{◌-◌, ◌/◌, ◌%◌, ◌==◌, ◌&&◌, ◌++◌, ℕ, zero, suc, Bool, List, [], ◌∷◌, Option, Some, None, nat_le, if◌then◌else◌, All}
use Rattle.std.specs.List.{flat_map}
use Rattle.std.specs.Fmt.{decimal}
use Rattle.prl_base.specs.Clocks.{IsClock}
use Rattle.prl_base.specs.declared.operators.Clock.{Clock}
use Rattle.prl_base.specs.declared.values.Value.{Value}
use Rattle.prl_base.specs.Texts.{value_text}
use Rattle.prl_flow.specs.declared.programs.OutFlow.{OutFlow}
use Rattle.prl_flow.specs.Flows.{IsUpTo, value_at}

-- one value of an actuator: its instance, its date in ticks, and the value
pub record Row : Type 0 where
  pub name : List ℕ
  pub instance : ℕ
  pub date : ℕ
  pub value : Value

-- whether t is a date of the clock
abbrev pub is_date : Clock → ℕ → Bool
is_date c t = nat_le c.start t && ((t - c.start) % c.period == 0)

-- the row of an actuator at a date at which it has this value
abbrev pub row_with : ℕ → OutFlow → Option Value → List Row
row_with t out None = []
row_with t out (Some v) = record { name = out.name; instance = (t - out.clock.start) / out.clock.period; date = t; value = v } ∷ []

-- the row of an actuator at a date, if it has one there
abbrev pub row_at : ℕ → OutFlow → List Row
row_at t out = if is_date out.clock t then row_with t out (value_at out.clock out.values t) else []

-- the rows of the actuators before the date `until`, by date, and at one date in the order of the actuators
abbrev pub actuator_rows : ℕ → List OutFlow → List Row
actuator_rows zero outs = []
actuator_rows (suc t) outs = actuator_rows t outs ++ flat_map (row_at t) outs

-- a row as it is written: name, instance, date, value, and a line feed
abbrev pub row_text : Row → List ℕ
row_text r = r.name ++ 44 ∷ decimal r.instance ++ 44 ∷ decimal r.date ++ 44 ∷ value_text r.value ++ 10 ∷ []

abbrev pub actuator_text : ℕ → List OutFlow → List ℕ
actuator_text until outs = flat_map row_text (actuator_rows until outs)

-- the flows of the actuators are up to the date `until`
abbrev pub AreUpTo : ℕ → List OutFlow → Type 0
AreUpTo until outs = All (λ out. IsClock out.clock × IsUpTo until out.clock out.values) outs
