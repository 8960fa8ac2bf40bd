-- The input ports of the tasks of a flat program, in order.
use Rattle.std.specs.Prelude.{◌+◌, ◌++◌, ℕ, List, [], ◌∷◌, length}
use Rattle.prl_base.specs.declared.numbers.FlowNo.{FlowNo}
use Rattle.prl_flow.specs.declared.programs.App.{App}
use Rattle.prl_flow.specs.declared.programs.Arg.{Arg}
use Rattle.prl_flow.specs.Programs.{FlatProgram}

-- an input port of a task, and the flow that the task reads there
pub record InputPort : Type 0 where
  pub task : ℕ
  pub port : ℕ
  pub flow : ℕ

-- the task of the sensor of input `k` of main, of application `k`, and of the actuator of output `k` of main
abbrev pub sensor_no : FlatProgram → ℕ → ℕ
sensor_no p k = k

abbrev pub node_no : FlatProgram → ℕ → ℕ
node_no p k = length p.ins + k

abbrev pub actuator_no : FlatProgram → ℕ → ℕ
actuator_no p k = length p.ins + length p.apps + k

-- how many tasks there are
abbrev pub task_count : FlatProgram → ℕ
task_count p = length p.ins + length p.apps + length p.outs

-- the ports of task `i` for these arguments, from port `j` on
abbrev pub argument_ports : ℕ → ℕ → List Arg → List InputPort
argument_ports i j [] = []
argument_ports i j (arg ∷ args) = record { task = i; port = j; flow = arg.flow.0 } ∷ argument_ports i (j + 1) args

-- the ports of applications, whose tasks are numbered from `i` on
abbrev pub application_ports : ℕ → List App → List InputPort
application_ports i [] = []
application_ports i (app ∷ apps) = argument_ports i 0 app.args ++ application_ports (i + 1) apps

-- the one port of each actuator, whose tasks are numbered from `i` on
abbrev pub actuator_ports : ℕ → List FlowNo → List InputPort
actuator_ports i [] = []
actuator_ports i (flow ∷ flows) = record { task = i; port = 0; flow = flow.0 } ∷ actuator_ports (i + 1) flows

-- all ports, by task and then by number
abbrev pub ports_of : FlatProgram → List InputPort
ports_of p = application_ports (node_no p 0) p.apps ++ actuator_ports (actuator_no p 0) p.outs
