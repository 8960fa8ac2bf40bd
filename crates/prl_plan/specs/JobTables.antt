-- The job table of a horizon: its jobs in the order of their encoded releases, each with its operands.
use Rattle.std.specs.Prelude.{◌≡◌, ◌+◌, ◌++◌, ◌==◌, ◌<◌, ◌⊎◌, ℕ, zero, suc, List, [], ◌∷◌, length, Some, slice_get, if◌then◌else◌}
use Rattle.prl_plan.specs.declared.graphs.Edge.{Edge}
use Rattle.prl_plan.specs.declared.walks.Operand.{Operand}
use Rattle.prl_plan.specs.Jobs.{task_at, job_count, IsHorizonJob}
use Rattle.prl_plan.specs.Operands.{operand_of}
use Rattle.prl_plan.specs.Plans.{PlanView, release_at}

-- a job and what it reads, in the order of its ports
pub record TableRow : Type 0 where
  pub task : ℕ
  pub job : ℕ
  pub operands : List Operand

-- the operands of job n of task i over these edges
abbrev pub operands_over : List Edge → ℕ → ℕ → List Operand
operands_over [] i n = []
operands_over (edge ∷ edges) i n = if edge.to.0 == i then operand_of edge n ∷ operands_over edges i n else operands_over edges i n

-- the one row comes before the other: by encoded releases, and then by tasks
abbrev pub ComesBefore : PlanView → TableRow → TableRow → Type 0
ComesBefore plan row next =
    (release_at plan row.task row.job < release_at plan next.task next.job)
    ⊎ ((release_at plan row.task row.job ≡ release_at plan next.task next.job) × (row.task < next.task))

pub record IsJobTable (plan : PlanView) (until : ℕ) (table : List TableRow) : Type 0 where
  -- each row is of a horizon job, with its operands
  pub jobs : (k : ℕ) (row : TableRow) → slice_get table k ≡ Some row → IsHorizonJob plan.graph until row.task row.job
  pub operands : (k : ℕ) (row : TableRow) → slice_get table k ≡ Some row → row.operands ≡ operands_over plan.graph.edges row.task row.job
  -- each horizon job has a row
  pub all : (i n : ℕ) → IsHorizonJob plan.graph until i n →
      (k : ℕ) × (row : TableRow) × (slice_get table k ≡ Some row) × (row.task ≡ i) × (row.job ≡ n)
  pub order : (k l : ℕ) (row next : TableRow) → k < l → slice_get table k ≡ Some row → slice_get table l ≡ Some next → ComesBefore plan row next

-- the row of job n of task i
abbrev pub row_of : PlanView → ℕ → ℕ → TableRow
row_of plan i n = record { task = i; job = n; operands = operands_over plan.graph.edges i n }

-- of the first n jobs of task i, those whose encoded release is t
abbrev pub jobs_at : PlanView → ℕ → ℕ → ℕ → List TableRow
jobs_at plan i t zero = []
jobs_at plan i t (suc n) = jobs_at plan i t n ++ (if release_at plan i n == t then row_of plan i n ∷ [] else [])

-- of the first i tasks, the horizon jobs whose encoded release is t
abbrev pub rows_at : PlanView → ℕ → ℕ → ℕ → List TableRow
rows_at plan until t zero = []
rows_at plan until t (suc i) = rows_at plan until t i ++ jobs_at plan i t (job_count (task_at plan.graph i) until)

-- the horizon jobs whose encoded release is before t, date by date, and at each date task by task
abbrev pub rows_before : PlanView → ℕ → ℕ → List TableRow
rows_before plan until zero = []
rows_before plan until (suc t) = rows_before plan until t ++ rows_at plan until t (length plan.graph.tasks)

-- the job table: a horizon job is released by its own deadline, so less than a hyperperiod after `until`
abbrev pub job_table : PlanView → ℕ → List TableRow
job_table plan until = rows_before plan until (until + plan.graph.hyper)
