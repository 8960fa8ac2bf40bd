-- How a chain of jobs and a circle of jobs are written.
use Rattle.std.specs.Prelude.{◌++◌, ℕ, ℤ, List, codes, decimal}
use Rattle.std.specs.Fmt.{signed_decimal}
use Rattle.std.specs.List.{flat_map}
use Rattle.prl_plan.specs.declared.graphs.TaskGraph.{TaskGraph}
use Rattle.prl_plan.specs.Jobs.{task_at}
use Rattle.prl_ways.specs.declared.chains.Chain.{Chain}
use Rattle.prl_ways.specs.declared.jobs.WayJob.{WayJob}
use Rattle.prl_ways.specs.Chains.{end_of}

-- a job with its WCET
unfoldable pub step_text : TaskGraph → WayJob → List ℕ
step_text graph job =
    codes "job " ++ signed_decimal job.number ++ codes " of " ++ (task_at graph job.task.0).name ++ codes " takes " ++ decimal (task_at graph job.task.0).wcet

unfoldable pub more_text : TaskGraph → WayJob → List ℕ
more_text graph job = codes ", then " ++ step_text graph job

-- the jobs one after another
unfoldable pub steps_text : TaskGraph → Chain → List ℕ
steps_text graph chain = step_text graph chain.first ++ flat_map (more_text graph) chain.rest

-- words and a date
unfoldable pub dated : List ℕ → ℤ → List ℕ
dated front date = front ++ signed_decimal date

unfoldable pub on_text : TaskGraph → Chain → List ℕ
on_text graph chain = codes " on " ++ steps_text graph chain

-- from when on, and the jobs
unfoldable pub begin_text : TaskGraph → Chain → List ℕ
begin_text graph chain = dated (codes "rom tick ") chain.begins ++ on_text graph chain

unfoldable pub until_text : Chain → List ℕ
until_text chain = dated (codes ": until tick ") chain.needs

-- the same, and until when at the earliest
unfoldable pub span_text : TaskGraph → Chain → List ℕ
span_text graph chain = begin_text graph chain ++ until_text chain

unfoldable pub due_text : TaskGraph → Chain → List ℕ
due_text graph chain = codes ", and its due is " ++ decimal (task_at graph (end_of chain).task).due ++ codes ".\n"

-- the release of the last job, and its due
unfoldable pub last_text : TaskGraph → Chain → List ℕ
last_text graph chain = dated (codes ".\nThe last of these jobs is released at tick ") chain.released ++ due_text graph chain

-- the chain with its dates
abbrev pub chain_text : TaskGraph → Chain → List ℕ
chain_text graph chain = codes "F" ++ span_text graph chain ++ last_text graph chain

-- the release of the last job, which is of the first one's task
unfoldable pub again_text : Chain → List ℕ
again_text chain = dated (codes ".\nThe last of these jobs, of the task of the first, is released at tick ") chain.released ++ codes " already.\n"

unfoldable pub loop_text : List ℕ
loop_text = codes "Round the loop: f"

-- the circle with its dates
abbrev pub circle_text : TaskGraph → Chain → List ℕ
circle_text graph chain = loop_text ++ span_text graph chain ++ again_text chain
