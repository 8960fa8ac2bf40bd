-- The horizon of a run: its jobs, and the constants of the run.
use Rattle.std.specs.Prelude.{◌≡◌, ◌+◌, ◌*◌, ◌<◌, ◌≤◌, ◌^◌, ◌⊎◌, ℕ, zero, suc, pos, List, [], length, nat_abs, slice_index, sum}
use Rattle.prl_base.specs.declared.limits.Limit.{Limit}
use Rattle.prl_base.specs.declared.limits.What.{What}
use Rattle.prl_base.specs.declared.limits.What.TheVariants as whats
use Rattle.prl_plan.specs.declared.horizons.Horizon.{Horizon}
use Rattle.prl_plan.specs.declared.limits.TheConstants.{MAX_JOBS, MAX_EVENTS}
use Rattle.prl_plan.specs.declared.tables.Window.{Window}
use Rattle.prl_plan.specs.Dates.{encoded_release}
use Rattle.prl_plan.specs.Jobs.{task_at, job_count, IsHorizonJob}
use Rattle.prl_plan.specs.Plans.{PlanView, deadline_at, actions_of}
use Rattle.prl_plan.specs.Runs.{RunConstants}

-- the sum of f over the numbers below n
abbrev pub sum_below : (ℕ → ℕ) → ℕ → ℕ
sum_below f zero = 0
sum_below f (suc n) = sum_below f n + f n

-- how many jobs of the plan are released before `until`
abbrev pub jobs_up_to : PlanView → ℕ → ℕ
jobs_up_to plan until = sum_below (λ i. job_count (task_at plan.graph i) until) (length plan.graph.tasks)

-- how many actions these jobs have
abbrev pub actions_up_to : PlanView → ℕ → ℕ
actions_up_to plan until =
    sum_below (λ i. sum_below (λ n. length (actions_of plan i n)) (job_count (task_at plan.graph i) until)) (length plan.graph.tasks)

-- the greatest encoded deadline among the horizon jobs; 0 where the horizon has no job
pub record IsEnd (plan : PlanView) (until end : ℕ) : Type 0 where
  pub above : (i n : ℕ) → IsHorizonJob plan.graph until i n → deadline_at plan i n ≤ end
  pub attained : (end ≡ 0) ⊎ ((i : ℕ) × (n : ℕ) × IsHorizonJob plan.graph until i n × (end ≡ deadline_at plan i n))

-- the horizon of the plan up to `until`, within the limits
pub record IsHorizon (plan : PlanView) (horizon : Horizon) : Type 0 where
  pub until : horizon.until < 2 ^ 32
  pub end : IsEnd plan horizon.until horizon.end
  pub jobs : horizon.jobs ≡ jobs_up_to plan horizon.until
  pub events : horizon.events ≡ actions_up_to plan horizon.until + horizon.end
  pub few_jobs : horizon.jobs ≤ MAX_JOBS
  pub few_events : horizon.events ≤ MAX_EVENTS

-- When a horizon is refused: it has too many jobs, or else too many events, and this is how many.
abbrev pub IsPast : PlanView → ℕ → What → ℕ → Type 0
IsPast plan until whats.Jobs found = (found ≡ jobs_up_to plan until) × (MAX_JOBS < found)
IsPast plan until whats.Events found =
    (jobs_up_to plan until ≤ MAX_JOBS) × ((end : ℕ) × IsEnd plan until end × (found ≡ actions_up_to plan until + end)) × (MAX_EVENTS < found)
IsPast plan until _ found = ⊥

abbrev pub IsPastLimit : PlanView → ℕ → Limit → Type 0
IsPastLimit plan until limit = IsPast plan until limit.what limit.found

-- Where the tasks of a plan run: by task its processor, 0 where none is told, and the windows by which its jobs are released.
pub record Placement : Type 0 where
  pub processors : List ℕ
  pub windows : List (List Window)

-- all tasks run on one processor, and jobs are released by the plan's own windows
abbrev pub alone : PlanView → Placement
alone plan = record { processors = []; windows = plan.windows }

-- what stays the same over a run of a plan in a horizon, so placed
abbrev pub constants_on : PlanView → Placement → Horizon → RunConstants
constants_on plan placement horizon = record {
  tasks = length plan.graph.tasks;
  slots = 2 * sum plan.counts;
  jobs = λ i. job_count (task_at plan.graph i) horizon.until;
  release = λ i n. nat_abs (encoded_release plan.graph placement.windows i (pos n));
  deadline = deadline_at plan;
  actions = actions_of plan;
  processor = λ i. slice_index placement.processors i;
  end = horizon.end;
}

-- on one processor
abbrev pub constants_of : PlanView → Horizon → RunConstants
constants_of plan horizon = constants_on plan (alone plan) horizon
