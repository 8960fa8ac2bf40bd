-- Solutions of flat programs whole: clocks, values and registers together.
use Rattle.std.specs.Prelude.{◌≡◌, ◌<◌, ◌+◌, ℕ, List, [], length, map, take, Option, Some, slice_get, slice_index_or}
use Rattle.std.specs.List.{AllByRecursion}
use Rattle.prl_base.specs.Clocks.{IsClock, IsDate, date_at}
use Rattle.prl_base.specs.declared.operators.Clock.{Clock}
use Rattle.prl_base.specs.declared.values.Value.{Value}
use Rattle.prl_body.specs.declared.bodies.CheckedBody.{CheckedBody}
use Rattle.prl_body.specs.Bodies.{body_named, body_step, first_values}
use Rattle.prl_flow.specs.Counts.{dates_before}
use Rattle.prl_flow.specs.Flows.{IsClockOf, IsUpTo, value_at, OperatorByDate}
use Rattle.prl_flow.specs.Programs.{FlatProgram}
use Rattle.prl_flow.specs.Rows.{Rows, rows_of}
use Rattle.prl_flow.specs.Rules.{Rule, rated, constant, operator, applied, same, sensed, mark_rule, flat_rules}

-- a flow up to a date: its clock, and a value for each of the dates
pub record Timed : Type 0 where
  pub clock : Clock
  pub values : List Value

abbrev pub IsTimed : ℕ → Timed → Type 0
IsTimed until f = IsClock f.clock × IsUpTo until f.clock f.values

-- the values of flows at a date
abbrev pub all_at : List Timed → ℕ → List (Option Value)
all_at flows t = map (λ (f : Timed). value_at f.clock f.values t) flows

abbrev pub HaveClock : Clock → List Timed → Type 0
HaveClock clock flows = AllByRecursion (λ (f : Timed). f.clock ≡ clock) flows

-- at the n-th date of the clock a step of the body takes the arguments and the registers to the outputs and the next
-- registers
pub record IsStep (body : CheckedBody) (clock : Clock) (args outs : List Timed) (registers : List (List Value)) (n : ℕ) : Type 0 where
  pub inputs : List Value
  pub before : List Value
  pub read : all_at args (date_at clock n) ≡ map Some inputs
  pub held : slice_get registers n ≡ Some before
  pub gives : all_at outs (date_at clock n) ≡ map Some (body_step body inputs before).outputs
  pub next : slice_get registers (n + 1) ≡ Some (body_step body inputs before).registers

-- The arguments and the outputs have one clock, and at each of its dates the body of the name makes a step. Registers are
-- held before each date and after the last, and are the body's first values at first.
pub record IsApplied (bodies : List CheckedBody) (until : ℕ) (name : List ℕ) (args outs : List Timed) (registers : List (List Value)) : Type 0 where
  pub body : CheckedBody
  pub named : body_named bodies name ≡ Some body
  pub clock : Clock
  pub args_clock : HaveClock clock args
  pub outs_clock : HaveClock clock outs
  pub number : length registers ≡ dates_before until clock + 1
  pub first : slice_get registers 0 ≡ Some (first_values body)
  pub steps : (n : ℕ) → date_at clock n < until → IsStep body clock args outs registers n

-- a rule of flows and registers, up to the date `until`
abbrev pub Holds : List CheckedBody → Rows → ℕ → Rule Timed (List (List Value)) → Type 0
Holds bodies rows until (rated rate f) = IsClockOf rate f.clock
Holds bodies rows until (constant v f) = (t : ℕ) → IsDate f.clock t → t < until → value_at f.clock f.values t ≡ Some v
Holds bodies rows until (operator op x y) = OperatorByDate op x.clock x.values y.clock y.values until
Holds bodies rows until (applied name args outs registers) = IsApplied bodies until name args outs registers
Holds bodies rows until (same f g) = f ≡ g
Holds bodies rows until (sensed k f) = f.values ≡ take (length f.values) (rows_of rows k)

-- the flows and the registers of the applications, each in the order of their numbers
pub record State : Type 0 where
  pub flows : List Timed
  pub registers : List (List (List Value))

abbrev pub flow_at : State → ℕ → Timed
flow_at s i = slice_index_or s.flows i (record { clock = record { period = 1; start = 0 }; values = [] })

abbrev pub registers_at : State → ℕ → List (List Value)
registers_at s k = slice_index_or s.registers k []

-- each flow of the program is a flow up to the date, and all of the program's rules hold
pub record IsSolution (p : FlatProgram) (bodies : List CheckedBody) (rows : Rows) (until : ℕ) (s : State) : Type 0 where
  pub flow_count : length s.flows ≡ length p.flows
  pub register_count : length s.registers ≡ length p.apps
  pub timed : AllByRecursion (IsTimed until) s.flows
  pub rules : AllByRecursion (Holds bodies rows until) (map (mark_rule (flow_at s) (registers_at s)) (flat_rules p))
