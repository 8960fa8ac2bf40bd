-- The task graph of a flat program with its clocks, and why there is none.
use Rattle.std.specs.Prelude.{◌≡◌, ◌/◌, ◌<◌, ◌≤◌, ◌^◌, ◌-◌, ℕ, List, length, map, min, sum}
use Rattle.prl_base.specs.declared.limits.What.{What}
use Rattle.prl_base.specs.declared.limits.What.TheVariants as limits
use Rattle.prl_base.specs.declared.operators.Clock.{Clock}
use Rattle.prl_flow.specs.Programs.{FlatProgram}
use Rattle.prl_flow.specs.Solutions.{clock_of}
use Rattle.prl_plan.specs.declared.graphs.Task.{Task}
use Rattle.prl_plan.specs.declared.graphs.TaskGraph.{TaskGraph}
use Rattle.prl_plan.specs.declared.limits.TheConstants.{MAX_TASKS, MAX_EDGES, MAX_HYPER, MAX_PERIOD_JOBS}
use Rattle.prl_graph.specs.declared.faults.GraphFault.{GraphFault}
use Rattle.prl_graph.specs.declared.faults.GraphFault.TheVariants as faults
use Rattle.prl_graph.specs.Dues.{AreDuesAllowed, AreDuesInRange, IsDueOnNonTask, IsDueOutOfRange}
use Rattle.prl_graph.specs.Edges.{AreEdges}
use Rattle.prl_graph.specs.Hyperperiods.{IsHyperperiod, IsPastHyperperiod}
use Rattle.prl_graph.specs.Ports.{ports_of, task_count}
use Rattle.prl_graph.specs.Tasks.{AreTasks}

-- periods and starts of at most 2^31 - 1
pub record AreSmallClocks (clocks : List Clock) : Type 0 where
  pub period : (i : ℕ) → i < length clocks → (clock_of clocks i).period < 2 ^ 31
  pub start : (i : ℕ) → i < length clocks → (clock_of clocks i).start < 2 ^ 31

-- how many jobs tasks have in so many ticks
abbrev pub jobs_within : ℕ → List Task → ℕ
jobs_within hyper tasks = sum (map (λ (task : Task). hyper / task.clock.period) tasks)

-- each due stands where it may, and is in its range
pub record HasDues (p : FlatProgram) (clocks : List Clock) : Type 0 where
  pub allowed : AreDuesAllowed p
  pub within : AreDuesInRange p clocks

pub record IsGraphOf (p : FlatProgram) (clocks : List Clock) (graph : TaskGraph) : Type 0 where
  pub dues : HasDues p clocks
  pub tasks : AreTasks p clocks graph.tasks
  pub edges : AreEdges p clocks graph.edges
  pub hyper : IsHyperperiod clocks graph.hyper
  pub few_tasks : task_count p ≤ MAX_TASKS
  pub few_edges : length (ports_of p) ≤ MAX_EDGES
  pub few_ticks : graph.hyper ≤ MAX_HYPER
  pub few_jobs : jobs_within graph.hyper graph.tasks ≤ MAX_PERIOD_JOBS

-- a count, as far as it can be told in 64 bits
abbrev pub told : ℕ → ℕ
told count = min count (2 ^ 64 - 1)

-- the jobs of a hyperperiod are so many, past their limit
pub record IsPastJobs (p : FlatProgram) (clocks : List Clock) (found : ℕ) : Type 0 where
  pub hyper : ℕ
  pub hyper_is : IsHyperperiod clocks hyper
  pub few_ticks : hyper ≤ MAX_HYPER
  pub tasks : List Task
  pub tasks_are : AreTasks p clocks tasks
  pub found_is : found ≡ jobs_within hyper tasks
  pub past : MAX_PERIOD_JOBS < found

-- Of these limits, in this order, the first that is passed, and what was found: tasks, edges, the hyperperiod, and jobs in it.
abbrev pub IsPassedLimit : FlatProgram → List Clock → What → ℕ → Type 0
IsPassedLimit p clocks limits.Tasks found = (MAX_TASKS < task_count p) × (found ≡ told (task_count p))
IsPassedLimit p clocks limits.Edges found =
    (task_count p ≤ MAX_TASKS) × (MAX_EDGES < length (ports_of p)) × (found ≡ told (length (ports_of p)))
IsPassedLimit p clocks limits.Hyperperiod found =
    (task_count p ≤ MAX_TASKS) × (length (ports_of p) ≤ MAX_EDGES) × IsPastHyperperiod clocks found
IsPassedLimit p clocks limits.PeriodJobs found =
    (task_count p ≤ MAX_TASKS) × (length (ports_of p) ≤ MAX_EDGES) × IsPastJobs p clocks found
IsPassedLimit p clocks _ found = ⊥

-- why there is no task graph: the first of a due on a flow of no task, a due out of its range and a passed limit, or want of memory
abbrev pub IsGraphFault : FlatProgram → List Clock → GraphFault → Type 0
IsGraphFault p clocks (faults.DueOnNonTask label) = IsDueOnNonTask p label
IsGraphFault p clocks (faults.DueRange flow due period) = AreDuesAllowed p × IsDueOutOfRange p clocks flow due period
IsGraphFault p clocks (faults.Limit limit) = HasDues p clocks × IsPassedLimit p clocks limit.what limit.found
IsGraphFault p clocks faults.Memory = Unit {0}

-- a fault that the program has; want of memory is none
abbrev pub IsOfProgram : GraphFault → Type 0
IsOfProgram (faults.DueOnNonTask label) = Unit {0}
IsOfProgram (faults.DueRange flow due period) = Unit {0}
IsOfProgram (faults.Limit limit) = Unit {0}
IsOfProgram faults.Memory = ⊥
