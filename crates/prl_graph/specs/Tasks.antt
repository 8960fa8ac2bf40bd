-- The tasks of a flat program: sensors, applications, actuators.
use Rattle.std.specs.Prelude.{◌≡◌, ◌++◌, ℕ, List, ◌∷◌, length, decimal, Option, Some, None, slice_get, slice_index_or, unwrap_or}
use Rattle.prl_base.specs.declared.numbers.FlowNo.{FlowNo}
use Rattle.prl_base.specs.declared.operators.Clock.{Clock}
use Rattle.prl_flow.specs.declared.programs.App.{App}
use Rattle.prl_flow.specs.declared.programs.Flow.{Flow}
use Rattle.prl_flow.specs.Programs.{FlatProgram, name_of, wcet_of}
use Rattle.prl_flow.specs.Solutions.{clock_of}
use Rattle.prl_plan.specs.declared.graphs.Kind.TheVariants as kinds
use Rattle.prl_plan.specs.declared.graphs.Task.{Task}
use Rattle.prl_graph.specs.Dues.{IsLeastDue}
use Rattle.prl_graph.specs.Ports.{node_no, actuator_no, task_count}

-- the due that a flow notes, and otherwise its period
abbrev pub due_or : Option Flow → ℕ → ℕ
due_or None period = period
due_or (Some flow) period = unwrap_or flow.due period

abbrev pub device_due : FlatProgram → List Clock → ℕ → ℕ
device_due p clocks i = due_or (slice_get p.flows i) (clock_of clocks i).period

-- the task of the sensor of main's input `k`, which is this flow
abbrev pub sensor_task : FlatProgram → List Clock → ℕ → FlowNo → Task
sensor_task p clocks k flow = record {
  name = name_of p.in_devices k;
  kind = kinds.Sensor k;
  clock = clock_of clocks flow.0;
  wcet = wcet_of p.in_devices k;
  due = device_due p clocks flow.0;
}

-- the clock of an application: that of its first output, as of all its arguments and outputs
abbrev pub application_clock : List Clock → App → Clock
application_clock clocks app = clock_of clocks (slice_index_or app.outs 0 (record { 0 = 0 })).0

-- the task of application `k`: its name is the node's, `@` and the number
abbrev pub node_task : List Clock → ℕ → App → ℕ → Task
node_task clocks k app due = record {
  name = app.name ++ 64 ∷ decimal k;
  kind = kinds.Node k;
  clock = application_clock clocks app;
  wcet = app.wcet;
  due = due;
}

-- the task of the actuator of main's output `k`, which is this flow
abbrev pub actuator_task : FlatProgram → List Clock → ℕ → FlowNo → Task
actuator_task p clocks k flow = record {
  name = name_of p.out_devices k;
  kind = kinds.Actuator k;
  clock = clock_of clocks flow.0;
  wcet = wcet_of p.out_devices k;
  due = device_due p clocks flow.0;
}

pub record IsSensorTask (p : FlatProgram) (clocks : List Clock) (i : ℕ) (task : Task) : Type 0 where
  pub flow : FlowNo
  pub found : slice_get p.ins i ≡ Some flow
  pub is : task ≡ sensor_task p clocks i flow

pub record IsNodeTask (p : FlatProgram) (clocks : List Clock) (i : ℕ) (task : Task) : Type 0 where
  pub number : ℕ
  pub at : i ≡ node_no p number
  pub app : App
  pub found : slice_get p.apps number ≡ Some app
  pub due : ℕ
  pub least : IsLeastDue p number (application_clock clocks app).period due
  pub is : task ≡ node_task clocks number app due

pub record IsActuatorTask (p : FlatProgram) (clocks : List Clock) (i : ℕ) (task : Task) : Type 0 where
  pub number : ℕ
  pub at : i ≡ actuator_no p number
  pub flow : FlowNo
  pub found : slice_get p.outs number ≡ Some flow
  pub is : task ≡ actuator_task p clocks number flow

-- task number `i` of the program: main's inputs first, then the applications, then main's outputs
pub data IsTaskOf (p : FlatProgram) (clocks : List Clock) (i : ℕ) (task : Task) : Type 0 where
  sensor : IsSensorTask p clocks i task → IsTaskOf p clocks i task
  node : IsNodeTask p clocks i task → IsTaskOf p clocks i task
  actuator : IsActuatorTask p clocks i task → IsTaskOf p clocks i task

pub record AreTasks (p : FlatProgram) (clocks : List Clock) (tasks : List Task) : Type 0 where
  pub count : length tasks ≡ task_count p
  pub each : (i : ℕ) (task : Task) → slice_get tasks i ≡ Some task → IsTaskOf p clocks i task
