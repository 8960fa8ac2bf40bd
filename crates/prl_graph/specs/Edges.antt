-- The edges of a flat program: from each input port back to where its values come from.
use Rattle.std.specs.Prelude.{◌≡◌, ℕ, List, [], ◌∷◌, length, Some, slice_get}
use Rattle.prl_base.specs.declared.numbers.FlowNo.{FlowNo}
use Rattle.prl_base.specs.declared.operators.Clock.{Clock}
use Rattle.prl_base.specs.declared.operators.Op.{Op}
use Rattle.prl_flow.specs.declared.programs.Def.{Def}
use Rattle.prl_flow.specs.declared.programs.Def.TheVariants as definitions
use Rattle.prl_flow.specs.declared.programs.Flow.{Flow}
use Rattle.prl_flow.specs.Programs.{FlatProgram}
use Rattle.prl_flow.specs.Solutions.{clock_of}
use Rattle.prl_plan.specs.declared.graphs.Edge.{Edge}
use Rattle.prl_plan.specs.declared.graphs.Producer.{Producer}
use Rattle.prl_plan.specs.declared.graphs.Producer.TheVariants as producers
use Rattle.prl_graph.specs.Ports.{InputPort, ports_of, sensor_no, node_no}

-- copies and operators lead from the one flow back to the other, over these operators
pub data LeadsBack (p : FlatProgram) : ℕ → List Op → ℕ → Type 0 where
  here : (i : ℕ) → LeadsBack p i [] i
  copy : (i j : ℕ) (ops : List Op) (flow : Flow) (of : FlowNo) → slice_get p.flows i ≡ Some flow → flow.def ≡ definitions.Copy of
      → LeadsBack p of.0 ops j → LeadsBack p i ops j
  operator : (i j : ℕ) (ops : List Op) (flow : Flow) (op : Op) (of : FlowNo) → slice_get p.flows i ≡ Some flow → flow.def ≡ definitions.Op op of
      → LeadsBack p of.0 ops j → LeadsBack p i (op ∷ ops) j

-- what gives the values of a flow that is a sensor's, a constant or an output of an application
abbrev pub IsProducer : FlatProgram → Def → Producer → Type 0
IsProducer p (definitions.Sensor k) from = from ≡ producers.Port (record { 0 = sensor_no p k }) 0
IsProducer p (definitions.Const v) from = from ≡ producers.Constant v
IsProducer p (definitions.Apply app out) from = from ≡ producers.Port (record { 0 = node_no p app }) out
IsProducer p (definitions.Copy of) from = ⊥
IsProducer p (definitions.Op op of) from = ⊥

-- the edge into this port, which comes from the flow `source`
pub record IsEdgeOf (p : FlatProgram) (clocks : List Clock) (port : InputPort) (edge : Edge) : Type 0 where
  pub to : edge.to.0 ≡ port.task
  pub port_is : edge.port ≡ port.port
  pub source : ℕ
  pub flow : Flow
  pub leads : LeadsBack p port.flow edge.ops source
  pub found : slice_get p.flows source ≡ Some flow
  pub from : IsProducer p flow.def edge.from
  pub period : edge.period ≡ (clock_of clocks source).period
  pub ty : edge.ty ≡ flow.ty

-- one edge for each of these ports, in order
pub record AreEdgesOf (p : FlatProgram) (clocks : List Clock) (ports : List InputPort) (edges : List Edge) : Type 0 where
  pub count : length edges ≡ length ports
  pub each : (e : ℕ) (port : InputPort) (edge : Edge) → slice_get ports e ≡ Some port → slice_get edges e ≡ Some edge → IsEdgeOf p clocks port edge

abbrev pub AreEdges : FlatProgram → List Clock → List Edge → Type 0
AreEdges p clocks edges = AreEdgesOf p clocks (ports_of p) edges
