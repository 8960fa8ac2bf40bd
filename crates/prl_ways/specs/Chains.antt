-- Chains of jobs that a refusal is about, and circles among them.
use Rattle.std.specs.Prelude.{◌≡◌, ℕ, ℤ, pos, ◌+ℤ◌, ◌<ℤ◌, List, Some, map, slice_get}
use Rattle.prl_plan.specs.declared.graphs.Edge.{Edge}
use Rattle.prl_plan.specs.declared.graphs.TaskGraph.{TaskGraph}
use Rattle.prl_plan.specs.Chains.{IsChain, last_of, needs_of}
use Rattle.prl_plan.specs.Jobs.{Job, task_at, release_of}
use Rattle.prl_plan.specs.Precedence.{PrecedesAlong}
use Rattle.prl_ways.specs.declared.chains.Chain.{Chain}
use Rattle.prl_ways.specs.declared.jobs.WayJob.{WayJob}

abbrev pub job_of : WayJob → Job
job_of job = record { task = job.task.0; number = job.number }

abbrev pub jobs_of : List WayJob → List Job
jobs_of jobs = map job_of jobs

-- along an edge of the graph the one job precedes the other
pub record HasEdge (graph : TaskGraph) (before after : Job) : Type 0 where
  pub index : ℕ
  pub edge : Edge
  pub found : slice_get graph.edges index ≡ Some edge
  pub along : PrecedesAlong graph edge before after

-- the job that it ends in
abbrev pub end_of : Chain → Job
end_of chain = last_of (job_of chain.first) (jobs_of chain.rest)

-- when a job is released
abbrev pub release_date : TaskGraph → Job → ℤ
release_date graph job = release_of (task_at graph job.task) job.number

-- Each job precedes the next. The dates are the releases of the first and of the last, and when the last can have ended at the
-- earliest.
pub record IsChainOf (graph : TaskGraph) (chain : Chain) : Type 0 where
  pub chained : IsChain graph (job_of chain.first) (jobs_of chain.rest)
  pub begins : chain.begins ≡ release_date graph (job_of chain.first)
  pub released : chain.released ≡ release_date graph (end_of chain)
  pub needs : chain.needs ≡ needs_of graph (job_of chain.first) (jobs_of chain.rest)

-- it ends in this job, which can have ended by this date at the earliest
pub record IsChainTo (graph : TaskGraph) (job : Job) (needs : ℤ) (chain : Chain) : Type 0 where
  pub is_chain : IsChainOf graph chain
  pub last : end_of chain ≡ job
  pub long : chain.needs ≡ needs

-- The last job is of the first one's task. After the others it can have ended no sooner than later than its own WCET after its
-- release: each turn needs longer than it has.
pub record IsCircle (graph : TaskGraph) (chain : Chain) : Type 0 where
  pub is_chain : IsChainOf graph chain
  pub round : (end_of chain).task ≡ chain.first.task.0
  pub longer : (chain.released +ℤ pos (task_at graph (end_of chain).task).wcet) <ℤ chain.needs
