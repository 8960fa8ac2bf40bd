-- The jobs that a picture shows.
use Rattle.std.specs.Prelude.{◌-◌, ℕ, zero, suc, List, if◌then◌else◌, nat_lt}
use Rattle.std.specs.List.{range_with_len}
use Rattle.prl_plan.specs.Jobs.{job_count, task_at}
use Rattle.prl_plan.specs.Plans.{PlanView, deadline_at}
use Rattle.prl_shapes.specs.declared.views.View.{View}

-- of the jobs of a task the first that is not over at a tick, where so many are released before it: of those the last alone may be under way there
abbrev pub first_from : PlanView → ℕ → ℕ → ℕ → ℕ
first_from plan i from zero = zero
first_from plan i from (suc n) = if nat_lt from (deadline_at plan i n) then n else suc n

abbrev pub first_shown : PlanView → ℕ → ℕ → ℕ
first_shown plan i from = first_from plan i from (job_count (task_at plan.graph i) from)

-- the numbers of the jobs of a task that are shown, not over at the first tick and released before the last, each once
abbrev pub drawn_jobs : PlanView → View → ℕ → List ℕ
drawn_jobs plan view i =
    let first = first_shown plan i view.scale.from in
    range_with_len first (job_count (task_at plan.graph i) view.scale.until - first)
