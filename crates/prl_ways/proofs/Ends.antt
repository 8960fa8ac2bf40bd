-- The job that a chain ends in.
use Rattle.std.proofs.Common.{◌≡◌, ap}
use Rattle.prl_plan.specs.Jobs.{Job, task_at}
use Rattle.prl_plan.specs.declared.graphs.TaskGraph.{TaskGraph}
use Rattle.prl_ways.specs.declared.jobs.WayJob.{WayJob}
use Rattle.prl_ways.specs.Chains.{job_of}

-- the due of its task
pub due_is : (graph : TaskGraph) (last : WayJob) (end : Job) → job_of last ≡ end → (task_at graph last.task.0).due ≡ (task_at graph end.task).due
due_is graph last end same = ap (λ (job : Job). (task_at graph job.task).due) same
