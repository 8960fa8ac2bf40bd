-- What runs tell is of the one behaviour: the laws of the crates below that show it, as one record for the laws of this crate.
use Rattle.std.specs.Prelude.{◌≡◌, ◌<◌, ℕ, List, Option, Some, Ok, length, map, slice_get}
use Rattle.std.specs.List.{AllByRecursion}
use Rattle.prl_base.specs.Vocabulary.{date_at, type_of}
use Rattle.prl_base.specs.declared.numbers.FlowNo.{FlowNo}
use Rattle.prl_base.specs.declared.operators.Clock.{Clock}
use Rattle.prl_base.specs.declared.values.Ty.{Ty}
use Rattle.prl_base.specs.declared.values.Value.{Value}
use Rattle.prl_ast.specs.Vocabulary.{IsInRange, ProgramTree}
use Rattle.prl_causal.specs.Vocabulary.{Behaviour, Entered, IsText, Satisfies, behaviour_of, flows_in, imports_in, state_in}
use Rattle.prl_body.specs.Vocabulary.{HaveBodiesOf, IsWellTyped}
use Rattle.prl_body.specs.declared.bodies.CheckedBody.{CheckedBody}
use Rattle.prl_clock.specs.Outcomes.{AreOnlyClocks}
use Rattle.prl_core.specs.Cores.{CoreView}
use Rattle.prl_expand.specs.Vocabulary.{AreCounted, Expansion, IsExpansion, IsOneToOne, flat_of}
use Rattle.prl_flow.specs.Vocabulary.{AreClocks, AreUpTo, FlatProgram, HasRows, HasType, HaveBodies, IsFlat, IsOrder, IsSolution, Rows, Solves, State, Timed, clock_of, rows_of}
use Rattle.prl_flow.specs.declared.programs.OutFlow.{OutFlow}
use Rattle.prl_graph.specs.Vocabulary.{AreSmallClocks, InputPort, IsGraphOf, ports_of, value_on_date, values_on_dates}
use Rattle.prl_names.specs.Uses.{used_imports}
use Rattle.prl_plan.specs.Vocabulary.{IsHorizonJob, IsPlan, IsWellFormed, PlanView, edge_at, task_at}
use Rattle.prl_plan.specs.declared.graphs.Edge.{Edge}
use Rattle.prl_plan.specs.declared.graphs.TaskGraph.{TaskGraph}
use Rattle.prl_replay.specs.Vocabulary.{AreFlowsBelow, out_flows}
use Rattle.prl_sensors.specs.Facts.{AreRowsFor}
use Rattle.prl_sensors.specs.SensorRows.{Inputs, sensors_of}
use Rattle.prl_causal.specs.Vocabulary.{ExactlyOne, HaveTypedBodies, clocks_in}
use Rattle.prl_types.specs.Typing.{IsTyped}
use Rattle.prl_values.specs.Vocabulary.{AreJobValues, HaveTaskBodies, HaveTypedRows, JobValues, job_values, value_on}

-- of behaviours and the solutions that they correspond to
pub record SolutionLaws : Type 0 where
  pub solutions : (p : ProgramTree) (asked : Option (List ℕ)) (main : ℕ) (types : List Ty) (e : Expansion) → IsTyped p asked main types → IsExpansion p main e
      → (bodies : List CheckedBody) (rows : Rows) (until : ℕ) → IsOneToOne (Satisfies p main bodies rows until) (IsSolution (flat_of p types main e) bodies rows until) state_in
  pub states : (p : ProgramTree) (k : ℕ) (e : Entered ℕ ℕ ℕ) (b : Behaviour) → IsText p k e → IsText p k b
      → AreCounted (flows_in e) → AreCounted (imports_in e) → behaviour_of (state_in b) e ≡ b
  pub clocks : (p : FlatProgram) → IsFlat p → (clocks : List Clock) → AreOnlyClocks p clocks
      → (bodies : List CheckedBody) (rows : Rows) (until : ℕ) (s : State) → IsSolution p bodies rows until s → clocks_in s ≡ clocks

-- of solutions, rows, bodies, values of jobs and outputs
pub record RunningLaws : Type 0 where
  pub meaning_laws : SolutionLaws
  pub fitted : (p : ProgramTree) (asked : Option (List ℕ)) (main : ℕ) (types : List Ty) (e : Expansion) → IsInRange p → IsTyped p asked main types
      → IsExpansion p main e → (bodies : List CheckedBody) → HaveBodiesOf p.imports (used_imports p main) bodies → HaveBodies (flat_of p types main e) bodies
  pub solved : (p : FlatProgram) (clocks : List Clock) (order : List FlowNo) (bodies : List CheckedBody) (rows : Rows) (until : ℕ)
      → IsFlat p → AreClocks p clocks → IsOrder p order → HaveBodies p bodies → HaveTypedBodies p bodies → HasRows p clocks rows until
      → ExactlyOne (λ (s : State). IsSolution p bodies rows until s × (clocks_in s ≡ clocks))
  pub solves : (p : FlatProgram) (bodies : List CheckedBody) (rows : Rows) (until : ℕ) (s : State) → IsFlat p → IsSolution p bodies rows until s
      → AreClocks p (map (λ (f : Timed). f.clock) s.flows)
      × Solves p (map (λ (f : Timed). f.clock) s.flows) bodies rows until (map (λ (f : Timed). f.values) s.flows)
  pub read : (inputs : Inputs) (needs text : List ℕ) (rows : Rows) → length needs ≡ length inputs.names → sensors_of inputs needs text ≡ Ok rows → AreRowsFor inputs needs rows
  pub task_bodies : (p : FlatProgram) (clocks : List Clock) (bodies : List CheckedBody) (graph : TaskGraph) → IsFlat p → IsGraphOf p clocks graph
      → HaveBodies p bodies → AllByRecursion IsWellTyped bodies → HaveTaskBodies graph bodies
  pub task_rows : (p : FlatProgram) (clocks : List Clock) (rows : Rows) (until : ℕ) (graph : TaskGraph) → IsFlat p → IsGraphOf p clocks graph
      → HasRows p clocks rows until
      → ((k : ℕ) (flow : FlowNo) → slice_get p.ins k ≡ Some flow → (n : ℕ) (v : Value) → slice_get (rows_of rows k) n ≡ Some v → HasType p (type_of v) flow)
      → HaveTypedRows graph until rows
  pub exist : (plan : PlanView) → IsPlan plan → (bodies : List CheckedBody) (rows : Rows) (until : ℕ)
      → AreJobValues plan.graph bodies rows until (job_values plan.graph bodies rows until)
  pub agree : (plan : PlanView) → IsPlan plan → (bodies : List CheckedBody) (rows : Rows) (until : ℕ) (v w : JobValues) → AreJobValues plan.graph bodies rows until v
      → AreJobValues plan.graph bodies rows until w → (e n : ℕ) → e < length plan.graph.edges → IsHorizonJob plan.graph until (edge_at plan.graph e).to.0 n
      → value_on v (edge_at plan.graph e) n ≡ value_on w (edge_at plan.graph e) n
  pub given : (p : FlatProgram) (clocks : List Clock) (bodies : List CheckedBody) (rows : Rows) (until : ℕ) (flows : List (List Value)) → IsFlat p → AreClocks p clocks
      → AreSmallClocks clocks → HaveBodies p bodies → AllByRecursion IsWellTyped bodies → Solves p clocks bodies rows until flows → (graph : TaskGraph)
      → IsGraphOf p clocks graph → IsWellFormed graph → AreJobValues graph bodies rows until (values_on_dates p clocks flows graph)
  pub operands : (p : FlatProgram) (clocks : List Clock) (bodies : List CheckedBody) (rows : Rows) (until : ℕ) (flows : List (List Value)) → IsFlat p → AreClocks p clocks
      → AreSmallClocks clocks → Solves p clocks bodies rows until flows → (graph : TaskGraph) → IsGraphOf p clocks graph → (e : ℕ) (port : InputPort) (edge : Edge)
      → slice_get (ports_of p) e ≡ Some port → slice_get graph.edges e ≡ Some edge → (n : ℕ) → date_at (clock_of clocks port.flow) n < until
      → value_on (values_on_dates p clocks flows graph) edge n ≡ value_on_date clocks flows port.flow n
  pub clock_of_task : (p : FlatProgram) (clocks : List Clock) → IsFlat p → AreClocks p clocks → AreSmallClocks clocks → (graph : TaskGraph) → IsGraphOf p clocks graph
      → (e : ℕ) (port : InputPort) → slice_get (ports_of p) e ≡ Some port → (task_at graph port.task).clock ≡ clock_of clocks port.flow
  pub got : (p : FlatProgram) (clocks : List Clock) (flows : List (List Value)) (core : CoreView) (outs : List OutFlow) → IsFlat p → AreClocks p clocks
      → AreSmallClocks clocks → HaveBodies p core.bodies → AllByRecursion IsWellTyped core.bodies → Solves p clocks core.bodies core.rows core.horizon.until flows
      → IsGraphOf p clocks core.plan.graph → IsPlan core.plan → AreFlowsBelow core (length core.plan.graph.tasks) outs → AreUpTo core.horizon.until outs
      → outs ≡ out_flows p.out_devices clocks flows 0 p.outs
