-- Flat programs.
use Rattle.std.specs.Prelude.{◌≡◌, ◌≤◌, ◌<◌, ◌^◌, ◌++◌, ℕ, List, [], length, Some, slice_get, slice_index_or}
use Rattle.prl_base.specs.Names.{IsName}
use Rattle.prl_base.specs.Operators.{IsOperatorFor}
use Rattle.prl_base.specs.Values.{IsOfType}
use Rattle.prl_base.specs.declared.values.Ty.{Ty}
use Rattle.prl_base.specs.declared.numbers.FlowNo.{FlowNo}
use Rattle.prl_ast.specs.InRange.{IfThere, IsDue, IsRate}
use Rattle.prl_flow.specs.declared.programs.App.{App}
use Rattle.prl_flow.specs.declared.programs.Arg.{Arg}
use Rattle.prl_flow.specs.declared.programs.Def.{Def}
use Rattle.prl_flow.specs.declared.programs.Def.TheVariants as definitions
use Rattle.prl_flow.specs.declared.programs.Flow.{Flow}

-- a device: its name and its WCET in ticks
abbrev pub Device : Type 0
Device = List ℕ × ℕ

-- flows, applications of imported nodes, which flows are main's inputs and outputs, and the devices of these
pub record FlatProgram : Type 0 where
  pub flows : List Flow
  pub apps : List App
  pub ins : List FlowNo
  pub outs : List FlowNo
  pub in_devices : List Device
  pub out_devices : List Device

abbrev pub name_of : List Device → ℕ → List ℕ
name_of devices k = (slice_index_or devices k ([], 0)).0

abbrev pub wcet_of : List Device → ℕ → ℕ
wcet_of devices k = (slice_index_or devices k ([], 0)).1

-- in the range of WCETs and periods: 1 to 2^31 - 1
abbrev pub IsFactor : ℕ → Type 0
IsFactor k = (1 ≤ k) × (k < 2 ^ 31)

-- the flow of this number has the type
abbrev pub HasType : FlatProgram → Ty → FlowNo → Type 0
HasType p ty flow = (f : Flow) × (slice_get p.flows flow.0 ≡ Some f) × (f.ty ≡ ty)

-- what a definition of the flow i, of type ty, needs: the numbers that it names are there, and the types agree
abbrev pub IsWellDefined : FlatProgram → ℕ → Ty → Def → Type 0
IsWellDefined p i ty (definitions.Sensor k) = slice_get p.ins k ≡ Some (record { 0 = i })
IsWellDefined p i ty (definitions.Copy of) = HasType p ty of
IsWellDefined p i ty (definitions.Const c) = IsOfType ty c
IsWellDefined p i ty (definitions.Apply app out) =
    (a : App) × (slice_get p.apps app ≡ Some a) × (slice_get a.outs out ≡ Some (record { 0 = i }))
IsWellDefined p i ty (definitions.Op op of) = HasType p ty of × IsOperatorFor ty op

-- the k-th input is the flow of the k-th sensor
abbrev pub IsInput : FlatProgram → ℕ → FlowNo → Type 0
IsInput p k flow = (f : Flow) × (slice_get p.flows flow.0 ≡ Some f) × (f.def ≡ definitions.Sensor k)

-- the flow is this output of the application of number k
abbrev pub IsOutput : FlatProgram → ℕ → ℕ → FlowNo → Type 0
IsOutput p k out flow = (f : Flow) × (slice_get p.flows flow.0 ≡ Some f) × (f.def ≡ definitions.Apply k out)

-- the application of number k names flows that are there, and its outputs, of which it has one or more, are its own
pub record IsApplication (p : FlatProgram) (k : ℕ) (app : App) : Type 0 where
  pub name : IsName app.name
  pub wcet : IsFactor app.wcet
  pub args : (j : ℕ) (arg : Arg) → slice_get app.args j ≡ Some arg → arg.flow.0 < length p.flows
  pub outs : (j : ℕ) (flow : FlowNo) → slice_get app.outs j ≡ Some flow → IsOutput p k j flow
  pub has_output : 1 ≤ length app.outs

-- the devices have names, each one of its own, and WCETs
abbrev pub AreDevices : List Device → Type 0
AreDevices devices =
    ((k : ℕ) (d : Device) → slice_get devices k ≡ Some d → IsName d.0 × IsFactor d.1)
    × ((j k : ℕ) (c d : Device) → slice_get devices j ≡ Some c → slice_get devices k ≡ Some d → c.0 ≡ d.0 → j ≡ k)

-- the rate and the due of a flow, where it has them, are in their ranges
abbrev pub IsNoted : Flow → Type 0
IsNoted flow = IfThere IsRate flow.rate × IfThere IsDue flow.due

pub record IsFlat (p : FlatProgram) : Type 0 where
  pub in_count : length p.in_devices ≡ length p.ins
  pub out_count : length p.out_devices ≡ length p.outs
  pub devices : AreDevices (p.in_devices ++ p.out_devices)
  pub flows : (i : ℕ) (flow : Flow) → slice_get p.flows i ≡ Some flow → IsWellDefined p i flow.ty flow.def
  pub notes : (i : ℕ) (flow : Flow) → slice_get p.flows i ≡ Some flow → IsNoted flow
  pub apps : (k : ℕ) (app : App) → slice_get p.apps k ≡ Some app → IsApplication p k app
  pub ins : (k : ℕ) (flow : FlowNo) → slice_get p.ins k ≡ Some flow → IsInput p k flow
  pub outs : (k : ℕ) (flow : FlowNo) → slice_get p.outs k ≡ Some flow → flow.0 < length p.flows
  pub few : length p.flows < 2 ^ 32
