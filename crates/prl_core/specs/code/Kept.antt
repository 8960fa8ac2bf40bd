-- What the machine keeps beside what is seen of it.
use Rattle.std.specs.Prelude.{◌≡◌, ◌+◌, ℕ, List, length, Some, slice_get, slice_index}
use Rattle.prl_base.specs.declared.values.Value.{Value}
use Rattle.prl_body.specs.declared.bodies.CheckedBody.{CheckedBody}
use Rattle.prl_plan.specs.declared.walks.Operand.TheVariants as operands
use Rattle.prl_plan.specs.Facts.{HasPlanFacts, WritesAt}
use Rattle.prl_plan.specs.Horizons.{IsHorizon}
use Rattle.prl_plan.specs.Plans.{PlanView, IsPlan, edge_at}
use Rattle.prl_plan.specs.Runs.{RunConstants, ExecState}
use Rattle.prl_plan.specs.States.{IsSound}
use Rattle.prl_values.specs.Fitting.{HaveTaskBodies, HaveTypedRows}
use Rattle.prl_values.specs.JobValues.{JobValues, value_from}
use Rattle.prl_values.specs.declared.workers.Worker.{Worker}
use Rattle.prl_values.specs.Workers.{IsWorker}
use Rattle.prl_core.specs.Cores.{CoreView, constants, values_of}

-- the workers of all tasks
pub record AreWorkers (plan : PlanView) (bodies : List CheckedBody) (until : ℕ) (v : JobValues) (s : ExecState) (workers : List Worker) : Type 0 where
  pub tasks : length workers ≡ length plan.graph.tasks
  pub each : (i : ℕ) (worker : Worker) → slice_get workers i ≡ Some worker →
      IsWorker plan bodies until v i (slice_index s.ended i) (slice_index s.places i) worker

-- beside the tag of an instance stands the value by instance of the edge
pub record AreHalves (plan : PlanView) (c : RunConstants) (v : JobValues) (s : ExecState) (halves : List Value) : Type 0 where
  pub slots : length halves ≡ c.slots
  pub stored : (i n place m slot : ℕ) (writes : WritesAt c i n place m slot) → slice_index s.tags slot ≡ m + 1 →
      slice_get halves slot ≡ value_from v (edge_at plan.graph writes.action.0.0).from (operands.From m)

pub record IsKept (core : CoreView) (halves : List Value) (workers : List Worker) : Type 0 where
  pub plan : IsPlan core.plan
  pub horizon : IsHorizon core.plan core.horizon
  pub facts : HasPlanFacts (constants core)
  pub bodies : HaveTaskBodies core.plan.graph core.bodies
  pub rows : HaveTypedRows core.plan.graph core.horizon.until core.rows
  pub sound : IsSound (constants core) core.state
  pub cells : AreHalves core.plan (constants core) (values_of core) core.state halves
  pub tasks : AreWorkers core.plan core.bodies core.horizon.until (values_of core) core.state workers
