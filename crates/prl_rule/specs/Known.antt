-- What a run is about, and its constants and values.
use Rattle.std.specs.Prelude.{◌-◌, ℕ, suc, pos, nat_lt, if◌then◌else◌, List, [], ◌∷◌, Option, Some, None, slice_get, unwrap_or}
use Rattle.prl_base.specs.declared.values.Value.{Value}
use Rattle.prl_base.specs.declared.values.Value.TheVariants as values
use Rattle.prl_body.specs.declared.bodies.CheckedBody.{CheckedBody}
use Rattle.prl_body.specs.Bodies.{Stepped, body_step}
use Rattle.prl_flow.specs.Applications.{registers_before}
use Rattle.prl_flow.specs.Rows.{Rows, rows_of}
use Rattle.prl_plan.specs.declared.graphs.Kind.{Kind}
use Rattle.prl_plan.specs.declared.graphs.Kind.TheVariants as kinds
use Rattle.prl_plan.specs.declared.horizons.Horizon.{Horizon}
use Rattle.prl_plan.specs.declared.walks.Operand.TheVariants as operands
use Rattle.prl_plan.specs.Horizons.{constants_of}
use Rattle.prl_plan.specs.Jobs.{task_at}
use Rattle.prl_plan.specs.Plans.{PlanView, edge_at}
use Rattle.prl_plan.specs.Runs.{RunConstants}
use Rattle.prl_values.specs.BodyRuns.{place_of_run}
use Rattle.prl_values.specs.JobValues.{JobValues, job_values, value_from, reads_of_job, body_of_task, at_most_one}
use Rattle.prl_rule.specs.declared.views.Constants.{Constants}
use Rattle.prl_rule.specs.declared.views.Gate.{Gate}
use Rattle.prl_rule.specs.RunValues.{RunValues}

abbrev pub known : PlanView → Horizon → Gate → Rows → List CheckedBody → Constants
known plan horizon gate rows bodies = record { plan = plan; horizon = horizon; gate = gate; sensors = rows; bodies = bodies }

abbrev pub run_of : Constants → RunConstants
run_of k = constants_of k.plan k.horizon

-- what the jobs of the run give
abbrev pub job_values_of : Constants → JobValues
job_values_of k = job_values k.plan.graph k.bodies k.sensors k.horizon.until

-- the edge whose cells have this one, where each edge has so many in turn
abbrev pub edge_in : List ℕ → ℕ → ℕ
edge_in [] cell = 0
edge_in (count ∷ counts) cell = if nat_lt cell count then 0 else suc (edge_in counts (cell - count))

-- the value of instance m of an edge; one that is not there, which no fitting plan lacks, counts as 0
abbrev pub instance_on : Constants → ℕ → ℕ → Value
instance_on k e m = unwrap_or (value_from (job_values_of k) (edge_at k.plan.graph e).from (operands.From m)) (values.Int (pos 0))

abbrev pub registers_with : Option CheckedBody → (ℕ → List Value) → ℕ → List Value
registers_with (Some body) reads n = registers_before body reads n
registers_with None reads n = []

-- the registers of a task after n steps of its body: a task that runs no body has none
abbrev pub registers_of : Kind → Option CheckedBody → (ℕ → List Value) → ℕ → List Value
registers_of (kinds.Sensor k) body reads n = []
registers_of (kinds.Node k) body reads n = registers_with body reads n
registers_of (kinds.Actuator k) body reads n = []

abbrev pub step_of : Option CheckedBody → List Value → List Value → Stepped
step_of (Some body) operands registers = body_step body operands registers
step_of None operands registers = record { outputs = []; registers = [] }

-- what job n of a task makes of its operands and registers: a sensor its row, a node a step of its body, an actuator what it reads
abbrev pub run_with : Kind → Rows → Option CheckedBody → ℕ → List Value → List Value → Stepped
run_with (kinds.Sensor k) rows body n operands registers = record { outputs = at_most_one (slice_get (rows_of rows k) n); registers = [] }
run_with (kinds.Node k) rows body n operands registers = step_of body operands registers
run_with (kinds.Actuator k) rows body n operands registers = record { outputs = operands; registers = [] }

abbrev pub run_in : Constants → ℕ → ℕ → List Value → List Value → Stepped
run_in k i n operands registers = run_with (task_at k.plan.graph i).kind k.sensors (body_of_task k.bodies (task_at k.plan.graph i)) n operands registers

-- what the jobs of the run read and give
unfoldable pub values_of : Constants → RunValues
values_of k = record {
  types = λ e. (edge_at k.plan.graph e).ty;
  stored = λ cell m. instance_on k (edge_in k.plan.counts cell) m;
  operands = reads_of_job k.plan.graph (job_values_of k);
  outputs = job_values_of k;
  registers = λ i n. registers_of (task_at k.plan.graph i).kind (body_of_task k.bodies (task_at k.plan.graph i)) (reads_of_job k.plan.graph (job_values_of k) i) n;
  run = run_in k;
  runs_at = place_of_run k.plan;
}
