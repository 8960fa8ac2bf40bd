-- Tasks under way.
use Rattle.std.specs.Prelude.{◌≡◌, ◌≤◌, ℕ, List, length, Some, slice_get}
use Rattle.prl_base.specs.declared.numbers.FlowNo.{FlowNo}
use Rattle.prl_base.specs.declared.operators.Clock.{Clock}
use Rattle.prl_flow.specs.declared.programs.App.{App}
use Rattle.prl_flow.specs.Programs.{FlatProgram}
use Rattle.prl_plan.specs.declared.graphs.Task.{Task}
use Rattle.prl_plan.specs.declared.limits.TheConstants.{MAX_TASKS, MAX_EDGES, MAX_HYPER}
use Rattle.prl_graph.specs.Hyperperiods.{IsHyperperiod}
use Rattle.prl_graph.specs.Ports.{ports_of, task_count}
use Rattle.prl_graph.specs.TaskGraphs.{HasDues}
use Rattle.prl_graph.specs.Tasks.{IsTaskOf, actuator_task, node_task, sensor_task}

-- the first `n` tasks
pub record AreFirstTasks (p : FlatProgram) (clocks : List Clock) (n : ℕ) (tasks : List Task) : Type 0 where
  pub count : length tasks ≡ n
  pub each : (i : ℕ) (task : Task) → slice_get tasks i ≡ Some task → IsTaskOf p clocks i task

-- the task of sensor `k`, of application `k` with this due, and of actuator `k`
pub record MakesSensor (p : FlatProgram) (clocks : List Clock) (k : ℕ) (task : Task) : Type 0 where
  pub flow : FlowNo
  pub found : slice_get p.ins k ≡ Some flow
  pub is : task ≡ sensor_task p clocks k flow

pub record MakesNode (p : FlatProgram) (clocks : List Clock) (k due : ℕ) (task : Task) : Type 0 where
  pub app : App
  pub found : slice_get p.apps k ≡ Some app
  pub is : task ≡ node_task clocks k app due

pub record MakesActuator (p : FlatProgram) (clocks : List Clock) (k : ℕ) (task : Task) : Type 0 where
  pub flow : FlowNo
  pub found : slice_get p.outs k ≡ Some flow
  pub is : task ≡ actuator_task p clocks k flow

-- each task has a period
abbrev pub HavePeriods : List Task → Type 0
HavePeriods tasks = (i : ℕ) (task : Task) → slice_get tasks i ≡ Some task → 1 ≤ task.clock.period

-- the dues and the limits that are looked at before the tasks, with the hyperperiod
pub record IsChecked (p : FlatProgram) (clocks : List Clock) (hyper : ℕ) : Type 0 where
  pub dues : HasDues p clocks
  pub few_tasks : task_count p ≤ MAX_TASKS
  pub few_edges : length (ports_of p) ≤ MAX_EDGES
  pub hyper_is : IsHyperperiod clocks hyper
  pub few_ticks : hyper ≤ MAX_HYPER
