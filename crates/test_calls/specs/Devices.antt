-- Plans of sensors and actuators alone, whose values are integers.
use Rattle.std.specs.Prelude.{◌≡◌, ◌<◌, ◌≤◌, ℕ, List, length, Some, slice_get}
use Rattle.prl_base.specs.Values.{type_of}
use Rattle.prl_base.specs.declared.values.Ty.TheVariants as types
use Rattle.prl_base.specs.declared.values.Value.{Value}
use Rattle.prl_flow.specs.Rows.{Rows, rows_of}
use Rattle.prl_plan.specs.declared.graphs.Edge.{Edge}
use Rattle.prl_plan.specs.declared.graphs.Task.{Task}
use Rattle.prl_plan.specs.declared.graphs.TaskGraph.{TaskGraph}
use Rattle.prl_plan.specs.declared.graphs.Kind.TheVariants as kinds
use Rattle.prl_plan.specs.Jobs.{job_count, task_at}

-- none of the first `count` tasks runs a body
abbrev pub AreNoNodes : ℕ → List Task → Type 0
AreNoNodes count tasks = (i k : ℕ) (task : Task) → i < count → slice_get tasks i ≡ Some task → task.kind ≡ kinds.Node k → ⊥

-- the first `count` edges are of integers
abbrev pub AreIntEdges : ℕ → List Edge → Type 0
AreIntEdges count edges = (e : ℕ) (edge : Edge) → e < count → slice_get edges e ≡ Some edge → edge.ty ≡ types.Int

-- the first `count` values are integers
abbrev pub AreInts : ℕ → List Value → Type 0
AreInts count values = (n : ℕ) (value : Value) → n < count → slice_get values n ≡ Some value → type_of value ≡ types.Int

-- a sensor has at least `count` rows, and all of them are integers
pub record HasIntRows (rows : Rows) (sensor count : ℕ) : Type 0 where
  pub enough : count ≤ length (rows_of rows sensor)
  pub ints : AreInts (length (rows_of rows sensor)) (rows_of rows sensor)

-- task i, where it is a sensor's, has a row for each of its jobs
abbrev pub HasTaskRows : TaskGraph → ℕ → Rows → ℕ → Type 0
HasTaskRows graph until rows i = (k : ℕ) → (task_at graph i).kind ≡ kinds.Sensor k → HasIntRows rows k (job_count (task_at graph i) until)

-- and so has each of the first `count` tasks
abbrev pub HaveIntRows : TaskGraph → ℕ → Rows → ℕ → Type 0
HaveIntRows graph until rows count = (i : ℕ) → i < count → HasTaskRows graph until rows i
