-- The meaning of a flat program: its clocks, and its flows up to a date.
use Rattle.std.specs.Prelude.{◌≡◌, ◌<◌, ℕ, List, [], length, map, take, Option, Some, None, slice_get, slice_index_or}
use Rattle.prl_base.specs.Clocks.{IsClock, date_at, IsDate}
use Rattle.prl_base.specs.declared.operators.Clock.{Clock}
use Rattle.prl_base.specs.declared.numbers.FlowNo.{FlowNo}
use Rattle.prl_base.specs.declared.values.Value.{Value}
use Rattle.prl_base.specs.Operators.{IsResultClock}
use Rattle.prl_base.specs.Values.{type_of}
use Rattle.prl_ast.specs.declared.declarations.Rate.{Rate}
use Rattle.prl_body.specs.declared.bodies.CheckedBody.{CheckedBody}
use Rattle.prl_body.specs.Bodies.{body_named}
use Rattle.prl_flow.specs.declared.programs.App.{App}
use Rattle.prl_flow.specs.declared.programs.Arg.{Arg}
use Rattle.prl_flow.specs.declared.programs.Def.{Def}
use Rattle.prl_flow.specs.declared.programs.Def.TheVariants as definitions
use Rattle.prl_flow.specs.declared.programs.Flow.{Flow}
use Rattle.prl_flow.specs.Flows.{IsClockOf, IsUpTo, value_at, OperatorByDate}
use Rattle.prl_flow.specs.Applications.{nth_step, values_at}
use Rattle.prl_flow.specs.Programs.{FlatProgram, HasType}
use Rattle.prl_flow.specs.Rows.{Rows, rows_of}

-- the values of a flow in a list of all flows
abbrev pub values_of : List (List Value) → ℕ → List Value
values_of flows i = slice_index_or flows i []

-- the clock of a flow in a list of all clocks
abbrev pub clock_of : List Clock → ℕ → Clock
clock_of clocks i = slice_index_or clocks i (record { period = 1; start = 0 })

-- the clock of a flow agrees with those of the flows that it is made of
abbrev pub AgreesClock : List Clock → Clock → Def → Type 0
AgreesClock clocks c (definitions.Sensor k) = Unit {0}
AgreesClock clocks c (definitions.Copy of) = c ≡ clock_of clocks of.0
AgreesClock clocks c (definitions.Const v) = Unit {0}
AgreesClock clocks c (definitions.Apply app out) = Unit {0}
AgreesClock clocks c (definitions.Op op of) = IsResultClock op (clock_of clocks of.0) c

-- the arguments and the outputs of the application have one clock
pub record HasOneClock (clocks : List Clock) (app : App) : Type 0 where
  pub clock : Clock
  pub args : (j : ℕ) (arg : Arg) → slice_get app.args j ≡ Some arg → clock_of clocks arg.flow.0 ≡ clock
  pub outs : (j : ℕ) (flow : FlowNo) → slice_get app.outs j ≡ Some flow → clock_of clocks flow.0 ≡ clock

-- the clock has the period and the start of the rate, where there is one
abbrev pub HasRate : Clock → Option Rate → Type 0
HasRate c None = Unit {0}
HasRate c (Some rate) = IsClockOf rate c

-- one clock for each flow, and the clocks agree
pub record AreClocks (p : FlatProgram) (clocks : List Clock) : Type 0 where
  pub count : length clocks ≡ length p.flows
  pub clock : (i : ℕ) → i < length clocks → IsClock (clock_of clocks i)
  pub rates : (i : ℕ) (flow : Flow) → slice_get p.flows i ≡ Some flow → HasRate (clock_of clocks i) flow.rate
  pub agree : (i : ℕ) (flow : Flow) → slice_get p.flows i ≡ Some flow → AgreesClock clocks (clock_of clocks i) flow.def
  pub apps : (k : ℕ) (app : App) → slice_get p.apps k ≡ Some app → HasOneClock clocks app

-- the flows of an application's arguments
abbrev pub argument_flows : List (List Value) → App → List (List Value)
argument_flows flows app = map (λ (a : Arg). values_of flows a.flow.0) app.args

-- The flow `values` is this output of the application of number k: at each date of its clock the body of the
-- application's name makes one step on the arguments' values at that date, and this is the step's output.
pub record IsOutputFlow (apps : List App) (bodies : List CheckedBody) (until : ℕ) (flows : List (List Value)) (c : Clock) (values : List Value) (k out : ℕ) : Type 0 where
  pub app : App
  pub body : CheckedBody
  pub applied : slice_get apps k ≡ Some app
  pub named : body_named bodies app.name ≡ Some body
  pub each : (n : ℕ) → date_at c n < until →
      value_at c values (date_at c n) ≡ slice_get (nth_step body (values_at c (argument_flows flows app)) n).outputs out

-- the flow `values` on the clock `c` meets its definition, among all flows
abbrev pub MeetsDefinition : FlatProgram → List Clock → List CheckedBody → Rows → ℕ → List (List Value) → Clock → List Value → Def → Type 0
-- a sensor's flow has the first rows of the sensor, one for each date
MeetsDefinition p clocks bodies rows until flows c values (definitions.Sensor k) = values ≡ take (length values) (rows_of rows k)
-- a copy has the values of the other flow
MeetsDefinition p clocks bodies rows until flows c values (definitions.Copy of) = values ≡ values_of flows of.0
-- a constant has its value at each date
MeetsDefinition p clocks bodies rows until flows c values (definitions.Const v) = (t : ℕ) → IsDate c t → t < until → value_at c values t ≡ Some v
-- an output of an application is an output of the steps of a body
MeetsDefinition p clocks bodies rows until flows c values (definitions.Apply app out) = IsOutputFlow p.apps bodies until flows c values app out
-- an operator has the value by date
MeetsDefinition p clocks bodies rows until flows c values (definitions.Op op of) = OperatorByDate op (clock_of clocks of.0) (values_of flows of.0) c values until

-- These are flows of the program up to the date `until`, one for each of its flows in order, for these bodies and
-- sensor rows. They leave no choice of registers: these are what the steps before have made of the first values.
pub record Solves (p : FlatProgram) (clocks : List Clock) (bodies : List CheckedBody) (rows : Rows) (until : ℕ) (flows : List (List Value)) : Type 0 where
  pub count : length flows ≡ length p.flows
  pub up_to : (i : ℕ) → i < length flows → IsUpTo until (clock_of clocks i) (values_of flows i)
  pub meets : (i : ℕ) (flow : Flow) → slice_get p.flows i ≡ Some flow →
      MeetsDefinition p clocks bodies rows until flows (clock_of clocks i) (values_of flows i) flow.def

-- a definition uses flows of a lower number alone
abbrev pub UsesBelow : FlatProgram → ℕ → Def → Type 0
UsesBelow p i (definitions.Sensor k) = Unit {0}
UsesBelow p i (definitions.Copy of) = of.0 < i
UsesBelow p i (definitions.Const v) = Unit {0}
UsesBelow p i (definitions.Apply k out) =
    (app : App) → slice_get p.apps k ≡ Some app → (j : ℕ) (arg : Arg) → slice_get app.args j ≡ Some arg → arg.flow.0 < i
UsesBelow p i (definitions.Op op of) = of.0 < i

-- each flow uses flows of a lower number alone
abbrev pub IsOrdered : FlatProgram → Type 0
IsOrdered p = (i : ℕ) (flow : Flow) → slice_get p.flows i ≡ Some flow → UsesBelow p i flow.def

-- each sensor has a row for each date of its flow before `until`
abbrev pub HasRows : FlatProgram → List Clock → Rows → ℕ → Type 0
HasRows p clocks rows until =
    (k : ℕ) (flow : FlowNo) → slice_get p.ins k ≡ Some flow →
    (n : ℕ) → date_at (clock_of clocks flow.0) n < until → n < length (rows_of rows k)

-- where there are applications, the rows of each sensor have the type of its flow
abbrev pub HasTypedRows : FlatProgram → Rows → Type 0
HasTypedRows p rows =
    0 < length p.apps → (k : ℕ) (flow : FlowNo) → slice_get p.ins k ≡ Some flow →
    (n : ℕ) (v : Value) → slice_get (rows_of rows k) n ≡ Some v → HasType p (type_of v) flow
