-- The bodies and the rows that the jobs of a task graph need, with their types.
use Rattle.std.specs.Prelude.{◌≡◌, ◌<◌, ◌==◌, if◌then◌else◌, ℕ, List, [], ◌∷◌, length, Some, slice_get}
use Rattle.prl_base.specs.Values.{type_of}
use Rattle.prl_base.specs.declared.values.Ty.{Ty}
use Rattle.prl_base.specs.declared.values.Value.{Value}
use Rattle.prl_body.specs.declared.bodies.CheckedBody.{CheckedBody}
use Rattle.prl_body.specs.Bodies.{IsWellTyped, input_types, output_types}
use Rattle.prl_flow.specs.Rows.{Rows, rows_of}
use Rattle.prl_plan.specs.declared.graphs.Edge.{Edge}
use Rattle.prl_plan.specs.declared.graphs.TaskGraph.{TaskGraph}
use Rattle.prl_plan.specs.declared.graphs.Kind.TheVariants as kinds
use Rattle.prl_plan.specs.declared.graphs.Producer.{Producer}
use Rattle.prl_plan.specs.declared.graphs.Producer.TheVariants as producers
use Rattle.prl_plan.specs.Jobs.{task_at, IsHorizonJob}
use Rattle.prl_plan.specs.Precedence.{ComesFrom}
use Rattle.prl_values.specs.JobValues.{body_of_task}

-- the types at the ports of task i, in order
abbrev pub port_types : List Edge → ℕ → List Ty
port_types [] i = []
port_types (edge ∷ edges) i = if edge.to.0 == i then edge.ty ∷ port_types edges i else port_types edges i

-- the output of a producer that is a task has this type among these
abbrev pub HasOutput : Producer → List Ty → Ty → Type 0
HasOutput (producers.Port task out) types ty = slice_get types out ≡ Some ty
HasOutput (producers.Constant value) types ty = Unit {0}

-- The body fits task i: it has an input of each port's type, in order, and on each edge from the task an output of the
-- edge's type.
pub record FitsTask (graph : TaskGraph) (i : ℕ) (body : CheckedBody) : Type 0 where
  pub typed : IsWellTyped body
  pub inputs : input_types body ≡ port_types graph.edges i
  pub outputs : (e : ℕ) (edge : Edge) → slice_get graph.edges e ≡ Some edge → ComesFrom edge.from i → HasOutput edge.from (output_types body) edge.ty

-- each node task has a body that fits it
pub record HaveTaskBodies (graph : TaskGraph) (bodies : List CheckedBody) : Type 0 where
  pub each : (i k : ℕ) → i < length graph.tasks → (task_at graph i).kind ≡ kinds.Node k →
      (body : CheckedBody) × (body_of_task bodies (task_at graph i) ≡ Some body) × FitsTask graph i body

-- the value has the type of each edge from task i
abbrev pub IsTypedFrom : TaskGraph → ℕ → Value → Type 0
IsTypedFrom graph i value = (e : ℕ) (edge : Edge) → slice_get graph.edges e ≡ Some edge → ComesFrom edge.from i → type_of value ≡ edge.ty

-- each sensor has a value for each horizon job of its task, of the type of each edge from the task
pub record HaveTypedRows (graph : TaskGraph) (until : ℕ) (rows : Rows) : Type 0 where
  pub each : (i k n : ℕ) → (task_at graph i).kind ≡ kinds.Sensor k → IsHorizonJob graph until i n →
      (value : Value) × (slice_get (rows_of rows k) n ≡ Some value) × IsTypedFrom graph i value
