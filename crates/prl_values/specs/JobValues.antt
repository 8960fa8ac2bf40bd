-- Values by instance: what each job reads and gives, by equations on the jobs whose values it reads.
use Rattle.std.specs.Prelude.{◌≡◌, ◌+◌, ◌==◌, if◌then◌else◌, ℕ, zero, suc, pos, List, [], ◌∷◌, Option, Some, None, slice_get, unwrap_or}
use Rattle.prl_base.specs.declared.values.Value.{Value}
use Rattle.prl_base.specs.declared.values.Value.TheVariants as values
use Rattle.prl_body.specs.declared.bodies.CheckedBody.{CheckedBody}
use Rattle.prl_body.specs.Bodies.{body_named}
use Rattle.prl_flow.specs.Applications.{nth_step}
use Rattle.prl_flow.specs.Rows.{Rows, rows_of}
use Rattle.prl_plan.specs.declared.graphs.Edge.{Edge}
use Rattle.prl_plan.specs.declared.graphs.Task.{Task}
use Rattle.prl_plan.specs.declared.graphs.TaskGraph.{TaskGraph}
use Rattle.prl_plan.specs.declared.graphs.Kind.{Kind}
use Rattle.prl_plan.specs.declared.graphs.Kind.TheVariants as kinds
use Rattle.prl_plan.specs.declared.graphs.Producer.{Producer}
use Rattle.prl_plan.specs.declared.graphs.Producer.TheVariants as producers
use Rattle.prl_plan.specs.declared.walks.Operand.{Operand}
use Rattle.prl_plan.specs.declared.walks.Operand.TheVariants as operands
use Rattle.prl_plan.specs.Jobs.{task_at, IsHorizonJob}
use Rattle.prl_plan.specs.Operands.{operand_of}

-- by task and job, what the job gives at its outputs
abbrev pub JobValues : Type 0
JobValues = ℕ → ℕ → List Value

-- the value of an operand: a constant, or what the producer's port gives at the job of the instance
abbrev pub value_from : JobValues → Producer → Operand → Option Value
value_from v from (operands.Const c) = Some c
value_from v (producers.Port task out) (operands.From m) = slice_get (v task.0 m) out
value_from v (producers.Constant value) (operands.From m) = Some value

-- the value of what job n of the consumer reads on the edge
abbrev pub value_on : JobValues → Edge → ℕ → Option Value
value_on v edge n = value_from v edge.from (operand_of edge n)

-- the same; one that is not there, which no fitting plan lacks, counts as 0
abbrev pub read_on : JobValues → Edge → ℕ → Value
read_on v edge n = unwrap_or (value_on v edge n) (values.Int (pos 0))

-- what job n of task i reads over these edges, in the order of its ports
abbrev pub reads_over : JobValues → List Edge → ℕ → ℕ → List Value
reads_over v [] i n = []
reads_over v (edge ∷ edges) i n = if edge.to.0 == i then read_on v edge n ∷ reads_over v edges i n else reads_over v edges i n

abbrev pub reads_of_job : TaskGraph → JobValues → ℕ → ℕ → List Value
reads_of_job graph v i n = reads_over v graph.edges i n

-- the word of a node task's name: all before `@`
abbrev pub word_of : List ℕ → List ℕ
word_of [] = []
word_of (byte ∷ bytes) = if byte == 64 then [] else byte ∷ word_of bytes

-- the body that a task runs: that of its word
abbrev pub body_of_task : List CheckedBody → Task → Option CheckedBody
body_of_task bodies task = body_named bodies (word_of task.name)

abbrev pub at_most_one : Option Value → List Value
at_most_one (Some value) = value ∷ []
at_most_one None = []

-- the outputs of a body's step of this number, where it makes one step after another on these inputs
abbrev pub step_outputs : Option CheckedBody → (ℕ → List Value) → ℕ → List Value
step_outputs (Some body) inputs n = (nth_step body inputs n).outputs
step_outputs None inputs n = []

-- What job n of a task gives, by what the jobs of the task read: a sensor's its row, a node's the outputs of its step, an
-- actuator's what it reads.
abbrev pub gives : Kind → Rows → Option CheckedBody → (ℕ → List Value) → ℕ → List Value
gives (kinds.Sensor k) rows body reads n = at_most_one (slice_get (rows_of rows k) n)
gives (kinds.Node k) rows body reads n = step_outputs body reads n
gives (kinds.Actuator k) rows body reads n = reads n

-- what job n of task i gives where jobs give v
abbrev pub given : TaskGraph → List CheckedBody → Rows → JobValues → ℕ → ℕ → List Value
given graph bodies rows v i n = gives (task_at graph i).kind rows (body_of_task bodies (task_at graph i)) (reads_of_job graph v i) n

-- the values by instance: each horizon job gives what follows from what the jobs that it reads of give
pub record AreJobValues (graph : TaskGraph) (bodies : List CheckedBody) (rows : Rows) (until : ℕ) (v : JobValues) : Type 0 where
  pub each : (i n : ℕ) → IsHorizonJob graph until i n → v i n ≡ given graph bodies rows v i n

-- what jobs give after so many rounds, in each of which every job gives what follows from the round before
abbrev pub values_after : TaskGraph → List CheckedBody → Rows → ℕ → JobValues
values_after graph bodies rows zero i n = []
values_after graph bodies rows (suc rounds) i n = given graph bodies rows (values_after graph bodies rows rounds) i n

-- after as many rounds as there are dates of releases, the values of the horizon jobs
abbrev pub job_values : TaskGraph → List CheckedBody → Rows → ℕ → JobValues
job_values graph bodies rows until = values_after graph bodies rows (until + graph.hyper)
