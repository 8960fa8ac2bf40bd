-- Why a task graph has no encoded dates.
use Rattle.std.specs.Prelude.{◌≡◌, ◌<◌, ◌/◌, ◌⊎◌, ℕ, ℤ, pos, ◌≤ℤ◌, ◌<ℤ◌, List, length}
use Rattle.prl_plan.specs.declared.graphs.TaskGraph.{TaskGraph}
use Rattle.prl_plan.specs.Jobs.{Job, task_at, deadline_of}
use Rattle.prl_plan.specs.Graphs.{jobs_in_hyperperiod}
use Rattle.prl_plan.specs.Chains.{IsChain, IsBest, last_of, needs_of, IsNarrow}
use Rattle.prl_dates.specs.declared.faults.DateFault.{DateFault}
use Rattle.prl_dates.specs.declared.faults.DateFault.TheVariants as faults

-- how many jobs task i has in a hyperperiod
abbrev pub jobs_of : TaskGraph → ℕ → ℕ
jobs_of graph i = graph.hyper / (task_at graph i).clock.period

-- one of the jobs of a hyperperiod
abbrev pub IsOfPeriod : TaskGraph → ℕ → ℕ → Type 0
IsOfPeriod graph i n = (i < length graph.tasks) × (n < jobs_of graph i)

-- the best of a job over chains of at most as many jobs as a hyperperiod has is above its deadline
pub record IsLate (graph : TaskGraph) (job : Job) (needs has : ℤ) : Type 0 where
  pub best : IsBest graph (jobs_in_hyperperiod graph) job needs
  pub due : has ≡ deadline_of (task_at graph job.task) job.number
  pub late : has <ℤ needs

-- a chain of one job more than a hyperperiod has ends in the job, and needs longer than the job's best
pub record EndsLoop (graph : TaskGraph) (job : Job) : Type 0 where
  pub best : ℤ
  pub is_best : IsBest graph (jobs_in_hyperperiod graph) job best
  pub first : Job
  pub rest : List Job
  pub chain : IsChain graph first rest
  pub long : length rest ≡ jobs_in_hyperperiod graph
  pub last : last_of first rest ≡ job
  pub longer : best <ℤ needs_of graph first rest

-- the job has P, and of the jobs of the hyperperiod none of a lower task has, nor a lower one of its task
pub record IsLowest (graph : TaskGraph) (P : Job → Type 0) (i : ℕ) (number : ℤ) : Type 0 where
  pub job : (n : ℕ) × (number ≡ pos n) × IsOfPeriod graph i n
  pub has : P (record { task = i; number = number })
  pub none_lower : (j n : ℕ) → IsOfPeriod graph j n → P (record { task = j; number = pos n }) → (i < j) ⊎ ((i ≡ j) × (number ≤ℤ pos n))

-- no job of the hyperperiod has P
abbrev pub NoneOfPeriod : TaskGraph → (Job → Type 0) → Type 0
NoneOfPeriod graph P = (i n : ℕ) → IsOfPeriod graph i n → P (record { task = i; number = pos n }) → ⊥

-- some best is above its deadline
abbrev pub IsSomehowLate : TaskGraph → Job → Type 0
IsSomehowLate graph job = (needs : ℤ) × (has : ℤ) × IsLate graph job needs has

-- want of memory is free
abbrev pub IsDateFault : TaskGraph → DateFault → Type 0
IsDateFault graph (faults.Narrow task job needs has) =
    IsLate graph (record { task = task.0; number = job }) needs has × IsLowest graph (IsSomehowLate graph) task.0 job
IsDateFault graph (faults.Loop task job) =
    NoneOfPeriod graph (IsSomehowLate graph) × IsLowest graph (EndsLoop graph) task.0 job
IsDateFault graph faults.Memory = Unit {0}

-- some chain of jobs needs longer than its last job has
abbrev pub HasNarrowChain : TaskGraph → Type 0
HasNarrowChain graph = (first : Job) × (rest : List Job) × IsNarrow graph first rest

abbrev pub HasNoNarrowChain : TaskGraph → Type 0
HasNoNarrowChain graph = HasNarrowChain graph → ⊥

-- a fault that tells of the graph, and not of memory
abbrev pub IsOfGraph : DateFault → Type 0
IsOfGraph (faults.Narrow task job needs has) = Unit {0}
IsOfGraph (faults.Loop task job) = Unit {0}
IsOfGraph faults.Memory = ⊥
