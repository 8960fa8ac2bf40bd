-- The rows that the flows of main's inputs need, and the text of what a program computes from them.
use Rattle.std.specs.Prelude.{◌≡◌, ◌<◌, ◌≤◌, ℕ, List, [], ◌∷◌, map, Option, Some, None, Result, Ok, Err, slice_get}
use Rattle.prl_base.specs.declared.limits.What.TheVariants as whats
use Rattle.prl_base.specs.declared.numbers.FlowNo.{FlowNo}
use Rattle.prl_base.specs.declared.operators.Clock.{Clock}
use Rattle.prl_base.specs.declared.values.Ty.{Ty}
use Rattle.prl_base.specs.declared.values.Ty.TheVariants as types
use Rattle.prl_ast.specs.Trees.{ProgramTree}
use Rattle.prl_ast.specs.declared.declarations.Param.{Param}
use Rattle.prl_body.specs.declared.bodies.CheckedBody.{CheckedBody}
use Rattle.prl_body.specs.Checks.{body_tree}
use Rattle.prl_flow.specs.declared.programs.Flow.{Flow}
use Rattle.prl_flow.specs.declared.programs.OutFlow.{OutFlow}
use Rattle.prl_flow.specs.Actuators.{actuator_text}
use Rattle.prl_flow.specs.Counts.{dates_before, values_before}
use Rattle.prl_flow.specs.Programs.{Device, FlatProgram}
use Rattle.prl_flow.specs.Rows.{Rows}
use Rattle.prl_flow.specs.Solutions.{clock_of}
use Rattle.prl_flow.specs.States.{Timed}
use Rattle.prl_causal.specs.Asked.{outputs_of}
use Rattle.prl_causal.specs.Behaviours.{Satisfies, state_in}
use Rattle.prl_causal.specs.Texts.{node_at}
use Rattle.prl_causal.specs.Conditions.{clocks_in}
use Rattle.prl_causal.specs.Uniqueness.{ExactlyOne}
use Rattle.prl_evaluation.specs.declared.evaluation.TheConstants.{MAX_VALUES}
use Rattle.prl_sensors.specs.SensorRows.{Inputs, sensors_of}
use Rattle.prl_sensors.specs.declared.faults.SensorFault.{SensorFault}
use Rattle.prl_sensors.specs.declared.faults.SensorFault.TheVariants as sensors
use Rattle.prl_stages.specs.declared.faults.InputFile.TheVariants as parts
use Rattle.prl_stages.specs.declared.faults.SensorsRefusal.{SensorsRefusal}
use Rattle.prl_stages.specs.declared.faults.SensorsRefusal.TheVariants as bad_rows
use Rattle.prl_stages.specs.declared.faults.Fault.{Fault}
use Rattle.prl_stages.specs.declared.faults.Fault.TheVariants as faults
use Rattle.prl_stages.specs.Given.{Given, text_of}
use Rattle.prl_stages.specs.Parts.{IsMain, AreBodies}
use Rattle.prl_stages.specs.Flattened.{HasClocks, IsFlattened}

abbrev pub type_of_flow : Option Flow → Ty
type_of_flow None = types.Int
type_of_flow (Some flow) = flow.ty

-- main's inputs: the names of their devices, and the types of their flows
abbrev pub inputs_of : FlatProgram → Inputs
inputs_of p = record {
  names = map (λ (d : Device). d.0) p.in_devices;
  types = map (λ (flow : FlowNo). type_of_flow (slice_get p.flows flow.0)) p.ins;
}

-- how many rows each of them needs: one for each date of its flow before `until`
abbrev pub needs_of : FlatProgram → List Clock → ℕ → List ℕ
needs_of p clocks until = map (λ (flow : FlowNo). dates_before until (clock_of clocks flow.0)) p.ins

-- what the text of the sensors has for main's inputs
abbrev pub rows_for : Given → FlatProgram → List Clock → Result Rows SensorFault
rows_for g p clocks = sensors_of (inputs_of p) (needs_of p clocks g.until) (text_of g parts.Sensors)

pub record HasRows (g : Given) (p : FlatProgram) (clocks : List Clock) (rows : Rows) : Type 0 where
  pub clocked : HasClocks g p clocks
  pub read : rows_for g p clocks ≡ Ok rows

-- the fault of rows that is told as a refusal
abbrev pub sensors_fault : SensorsRefusal → SensorFault
sensors_fault (bad_rows.Row number) = sensors.Row number
sensors_fault (bad_rows.NoSensor number) = sensors.NoSensor number
sensors_fault (bad_rows.Order number) = sensors.Order number
sensors_fault (bad_rows.Value number) = sensors.Value number
sensors_fault (bad_rows.Short name have need) = sensors.Short name have need

abbrev pub RefusesRows : Given → Fault → Type 0
RefusesRows g fault =
    (p : FlatProgram) × (clocks : List Clock) × HasClocks g p clocks × (refusal : SensorsRefusal)
    × (rows_for g p clocks ≡ Err (sensors_fault refusal)) × (fault ≡ faults.Sensors refusal)

-- the flows have few enough values
abbrev pub HasFewValues : Given → Type 0
HasFewValues g =
    (p : FlatProgram) × (clocks : List Clock) × HasClocks g p clocks × (values_before g.until clocks ≤ MAX_VALUES)

-- the fault that the flows have so many values
abbrev pub too_many : ℕ → Fault
too_many found = faults.Limit (record { what = whats.Values; found = found })

abbrev pub RefusesValues : Given → Fault → Type 0
RefusesValues g fault =
    (p : FlatProgram) × (clocks : List Clock) × HasClocks g p clocks × (MAX_VALUES < values_before g.until clocks)
    × (fault ≡ too_many (values_before g.until clocks))

-- flows with the names of these variables, one for one
abbrev pub named_flows : List Param → List Timed → List OutFlow
named_flows [] flows = []
named_flows (q ∷ qs) [] = []
named_flows (q ∷ qs) (f ∷ flows) = record { name = q.name; clock = f.clock; values = f.values } ∷ named_flows qs flows

-- What the texts mean: the program with its main node, its bodies and its rows, and the one behaviour that satisfies it for
-- these up to the date. The rows are those of the text for the clocks that the flows of main's inputs have in it.
pub record Meaning (g : Given) : Type 0 where
  pub program : ProgramTree
  pub main : ℕ
  pub is_main : IsMain g program main
  pub bodies : List CheckedBody
  pub are_bodies : AreBodies g (map body_tree bodies)
  pub rows : Rows
  pub one : ExactlyOne (Satisfies program main bodies rows g.until)
  pub flat : FlatProgram
  pub flattened : IsFlattened g flat
  pub read : rows_for g flat (clocks_in (state_in one.one)) ≡ Ok rows

-- the flows of main's outputs in it
abbrev pub meant_flows : (g : Given) → Meaning g → List OutFlow
meant_flows g meaning = named_flows (node_at meaning.program meaning.main).outs (outputs_of meaning.one.one)

-- The text is that of the flows of main's outputs in what the texts mean.
pub record IsFlowsText (g : Given) (text : List ℕ) : Type 0 where
  pub meaning : Meaning g
  pub written : text ≡ actuator_text g.until (meant_flows g meaning)
