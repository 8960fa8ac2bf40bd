-- The numbers of a horizon are within its limits.
use Rattle.std.proofs.Common.{◌<◌, ◌≤◌, ℕ, length, arith}
use Rattle.prl_plan.specs.Vocabulary.{sum_below, IsHorizon, constants_of, task_at, job_count, PlanView}
use Rattle.prl_plan.specs.declared.horizons.Horizon.{Horizon}
use Rattle.prl_plan.specs.declared.limits.TheConstants.{MAX_JOBS, MAX_EVENTS}
use Rattle.prl_plan.proofs.PartsOfSums.{part_of_sum}

pub jobs_small : (plan : PlanView) (h : Horizon) → IsHorizon plan h → (i : ℕ) → i < length plan.graph.tasks → (constants_of plan h).jobs i ≤ MAX_JOBS
jobs_small plan h is i inside =
    let part : job_count (task_at plan.graph i) h.until ≤ sum_below (λ j. job_count (task_at plan.graph j) h.until) (length plan.graph.tasks) =
    part_of_sum (λ j. job_count (task_at plan.graph j) h.until) (length plan.graph.tasks) i inside in
    omega (arith, part, is.jobs, is.few_jobs)

pub end_small : (plan : PlanView) (h : Horizon) → IsHorizon plan h → h.end ≤ MAX_EVENTS
end_small plan h is = omega (arith, is.events, is.few_events)
