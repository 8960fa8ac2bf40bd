-- The first values of flows, and one value more.
use Rattle.std.specs.Prelude.{◌≡◌, ◌+◌, ◌^◌, ◌<◌, ◌≤◌, ℕ, List, [], ◌∷◌, ◌++◌, length, slice_get, slice_set, Some}
use Rattle.prl_base.specs.Values.{type_of}
use Rattle.prl_base.specs.Clocks.{date_at}
use Rattle.prl_base.specs.declared.numbers.FlowNo.{FlowNo}
use Rattle.prl_base.specs.declared.operators.Clock.{Clock}
use Rattle.prl_base.specs.declared.values.Value.{Value}
use Rattle.prl_body.specs.declared.bodies.CheckedBody.{CheckedBody}
use Rattle.prl_flow.specs.Counts.{dates_before}
use Rattle.prl_flow.specs.Instances.{HasInstance}
use Rattle.prl_flow.specs.Applications.{HaveBodies}
use Rattle.prl_flow.specs.Programs.{FlatProgram, IsFlat}
use Rattle.prl_flow.specs.Rows.{Rows, rows_of}
use Rattle.prl_flow.specs.Solutions.{AreClocks, HasRows, clock_of, values_of}
use Rattle.prl_flow.specs.Uses.{IsOrder}
use Rattle.prl_flow.specs.declared.programs.App.{App}
use Rattle.prl_flow.specs.declared.programs.Def.{Def}
use Rattle.prl_flow.specs.declared.programs.Def.TheVariants as definitions
use Rattle.prl_flow.specs.declared.programs.Flow.{Flow}
use Rattle.prl_causal.specs.Conditions.{AreTypedRows}
use Rattle.prl_causal.specs.Tables.{IsFixed, Reads, Table, table_of}
use Rattle.prl_evaluation.specs.code.Runs.{IsRun}
use Rattle.prl_evaluation.specs.declared.runs.Run.{Run}
use Rattle.prl_evaluation.specs.declared.settings.Setting.{Setting}

-- the definition is no application's
abbrev pub IsPlain : Def → Type 0
IsPlain (definitions.Apply app out) = ⊥
IsPlain _ = Unit {0}

-- what the definition reads for its flow's instance n is there
abbrev pub IsThere : Rows → List (List Value) → Def → ℕ → Type 0
IsThere rows flows (definitions.Sensor k) n = (k < length rows) × (n < length (rows_of rows k))
IsThere rows flows (definitions.Copy of) n = (of.0 < length flows) × (n < length (values_of flows of.0))
IsThere rows flows (definitions.Const v) n = Unit {0}
IsThere rows flows (definitions.Apply app out) n = ⊥
IsThere rows flows (definitions.Op op of) n =
    (of.0 < length flows) × HasInstance op (length (values_of flows of.0)) n

-- how many values flow `i` has
abbrev pub len : List (List Value) → ℕ → ℕ
len flows i = length (values_of flows i)

-- flow `i` has one value more
abbrev pub pushed : List (List Value) → ℕ → Value → List (List Value)
pushed flows i x = slice_set flows i (values_of flows i ++ x ∷ [])

-- Flows up to different dates: each list has the first values of the one table that is fixed, and each application has made
-- the steps for the values of its outputs, or one step more.
pub record IsUnderWay (p : FlatProgram) (clocks : List Clock) (bodies : List CheckedBody) (rows : Rows) (until : ℕ) (flows : List (List Value)) (runs : List Run) : Type 0 where
  pub table : Table
  pub fixed : IsFixed p clocks bodies rows until table
  pub typed : (i n : ℕ) → i < length p.flows → date_at (clock_of clocks i) n < until → (flow : Flow) → slice_get p.flows i ≡ Some flow → type_of (table i n) ≡ flow.ty
  pub count : length flows ≡ length p.flows
  pub short : (i : ℕ) → i < length p.flows → len flows i ≤ dates_before until (clock_of clocks i)
  pub front : (i n : ℕ) → i < length p.flows → n < len flows i → table_of flows i n ≡ table i n
  pub run_count : length runs ≡ length p.apps
  pub run : (k : ℕ) (app : App) (r : Run) → slice_get p.apps k ≡ Some app → slice_get runs k ≡ Some r → IsRun bodies table app r
  pub steps : (k o : ℕ) (app : App) (r : Run) (flow : FlowNo) → slice_get p.apps k ≡ Some app → slice_get runs k ≡ Some r → slice_get app.outs o ≡ Some flow
      → (len flows flow.0 ≤ r.steps) × (r.steps ≤ len flows flow.0 + 1)

-- what is read for the next value of flow `i` is there, and the other outputs of its application are no shorter
pub record IsReady (p : FlatProgram) (flows : List (List Value)) (i : ℕ) (def : Def) : Type 0 where
  pub reads : (j m : ℕ) → Reads p def (len flows i) j m → m < len flows j
  pub outs : (k out o : ℕ) (app : App) (flow : FlowNo) → def ≡ definitions.Apply k out → slice_get p.apps k ≡ Some app → slice_get app.outs o ≡ Some flow → len flows i ≤ len flows flow.0

-- flow `i` has grown by one value, and no other
pub record HasGrown (old new : List (List Value)) (i : ℕ) : Type 0 where
  pub one : len new i ≡ len old i + 1
  pub others : (j : ℕ) → (j ≡ i → ⊥) → len new j ≡ len old j

-- what is evaluated is in order
pub record IsSet (s : Setting) : Type 0 where
  pub flat : IsFlat s.flat.now
  pub agree : AreClocks s.flat.now s.clocks.now
  pub is_order : IsOrder s.flat.now s.order.now
  pub have : HaveBodies s.flat.now s.bodies.now
  pub has_rows : HasRows s.flat.now s.clocks.now s.sensors.now s.until
  pub typed_rows : AreTypedRows s.flat.now s.sensors.now
  pub early : s.until < 2 ^ 31

abbrev pub UnderWay : Setting → List (List Value) → List Run → Type 0
UnderWay s flows runs = IsUnderWay s.flat.now s.clocks.now s.bodies.now s.sensors.now s.until flows runs

-- flow `i` may have its next value
pub record CanGrow (s : Setting) (flows : List (List Value)) (i : ℕ) : Type 0 where
  pub within : i < length s.flat.now.flows
  pub before : date_at (clock_of s.clocks.now i) (len flows i) < s.until
  pub ready : (flow : Flow) → slice_get s.flat.now.flows i ≡ Some flow → IsReady s.flat.now flows i flow.def
