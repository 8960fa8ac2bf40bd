-- Why schedules are refused is not a matter of bodies and rows.
use Rattle.std.proofs.Common.{◌≡◌, ◌≢◌, ◌∙◌, ℕ, List, [], Some, None, length, sym, ap}
use Rattle.prl_body.specs.declared.bodies.CheckedBody.{CheckedBody}
use Rattle.prl_flow.specs.Rows.{Rows}
use Rattle.prl_core.specs.Cores.{opened, opened_on}
use Rattle.prl_plan.specs.Horizons.{Placement}
use Rattle.prl_plan.specs.Plans.{PlanView}
use Rattle.prl_plan.specs.declared.horizons.Horizon.{Horizon}
use Rattle.prl_replay.specs.Replays.{IsReplayFault}
use Rattle.prl_replay.specs.declared.faults.ReplayFault.{ReplayFault}
use Rattle.prl_replay.specs.declared.faults.ReplayFault.TheVariants as causes
use Rattle.prl_stages.specs.Replayed.{bare, schedule_refusal}
use Rattle.prl_stages.specs.declared.faults.ScheduleRefusal.{ScheduleRefusal}
use Rattle.prl_plan.specs.declared.graphs.TaskGraph.{TaskGraph}
use Rattle.prl_executions.specs.code.Faults.{IsOfTask}

none_some : (r : ScheduleRefusal) → None ≡ Some r → ⊥
none_some r e = cc

-- a fault that is a refusal is no want of memory
pub refused_cause : (graph : TaskGraph) (cause : ReplayFault) (refusal : ScheduleRefusal) → schedule_refusal graph cause ≡ Some refusal → cause ≢ causes.Memory
refused_cause graph cause refusal told m = none_some refusal (sym (ap (schedule_refusal graph) m) ∙ told)

module _ (plan : PlanView) (horizon : Horizon) (bodies : List CheckedBody) (rows : Rows) (text : List ℕ) where
  pub bare_fault : (cause : ReplayFault) → IsReplayFault (opened plan bodies rows horizon) text cause → IsReplayFault (bare plan horizon) text cause
  bare_fault (causes.Syntax line) is = is
  bare_fault (causes.Illegal line rule) is = is
  bare_fault (causes.Unfinished task job) is = is
  bare_fault causes.Memory is = absurd is.2

  -- and the same on several processors
  pub bare_fault_on : (placement : Placement) (cause : ReplayFault) → IsReplayFault (opened_on plan placement bodies rows horizon) text cause
      → IsReplayFault (opened_on plan placement [] [] horizon) text cause
  bare_fault_on placement (causes.Syntax line) is = is
  bare_fault_on placement (causes.Illegal line rule) is = is
  bare_fault_on placement (causes.Unfinished task job) is = is
  bare_fault_on placement causes.Memory is = absurd is.2

  -- the task of an unfinished job is one of the plan's
  pub of_task : (cause : ReplayFault) → (cause ≢ causes.Memory → IsReplayFault (opened plan bodies rows horizon) text cause)
      → IsOfTask (length plan.graph.tasks) cause
  of_task (causes.Syntax line) is = tt
  of_task (causes.Illegal line rule) is = tt
  of_task (causes.Unfinished task job) is = (is (λ e. cc)).2.1.task
  of_task causes.Memory is = tt
