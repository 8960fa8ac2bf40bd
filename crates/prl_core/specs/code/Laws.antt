-- The laws that a machine rests on, over what is seen of it.
use Rattle.std.specs.Prelude.{◌≡◌, ◌<◌, ◌≤◌, ◌↔◌, ℕ, length, Some, slice_index}
use Rattle.prl_base.specs.Values.{type_of}
use Rattle.prl_base.specs.declared.values.Value.{Value}
use Rattle.prl_plan.specs.Facts.{HasPlanFacts}
use Rattle.prl_plan.specs.Jobs.{task_at, job_count, IsHorizonJob}
use Rattle.prl_plan.specs.Plans.{edge_at, low, high}
use Rattle.prl_plan.specs.Runs.{ExecState}
use Rattle.prl_plan.specs.States.{IsTagged}
use Rattle.prl_values.specs.JobValues.{value_on}
use Rattle.prl_values.specs.Workers.{HaveWorkLaws}
use Rattle.prl_core.specs.Cores.{CoreView, constants, values_of}

pub record HasCoreLaws (core : CoreView) : Type 0 where
  pub facts : HasPlanFacts (constants core)
  pub work : HaveWorkLaws core.plan core.horizon core.bodies core.rows
  pub counted : (i n : ℕ) → i < length core.plan.graph.tasks → 0 < (task_at core.plan.graph i).clock.period →
      IsHorizonJob core.plan.graph core.horizon.until i n ↔ (n < job_count (task_at core.plan.graph i) core.horizon.until)
  pub halves : (s : ExecState) → IsTagged (constants core) s → (cell : ℕ) → slice_index s.tags (high cell) ≤ slice_index s.tags (low cell)
  pub edges : (e n : ℕ) → e < length core.plan.graph.edges → IsHorizonJob core.plan.graph core.horizon.until (edge_at core.plan.graph e).to.0 n →
      (value : Value) × (value_on (values_of core) (edge_at core.plan.graph e) n ≡ Some value) × (type_of value ≡ (edge_at core.plan.graph e).ty)
