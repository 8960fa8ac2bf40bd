-- Well-formed task graphs.
use Rattle.std.specs.Prelude.{◌≡◌, ◌≢◌, ◌+◌, ◌*◌, ◌/◌, ◌≤◌, ◌<◌, ◌^◌, ◌++◌, ◌⊎◌, ℕ, Bool, true, false, List, [], ◌∷◌, map, sum, length, Some, slice_get}
use Rattle.std.specs.Fmt.{decimal}
use Rattle.prl_base.specs.Names.{IsName}
use Rattle.prl_base.specs.Operators.{IsResultClock, IsOperatorFor}
use Rattle.prl_base.specs.Values.{IsOfType}
use Rattle.prl_base.specs.declared.operators.Clock.{Clock}
use Rattle.prl_base.specs.declared.operators.Op.{Op}
use Rattle.prl_plan.specs.declared.graphs.Edge.{Edge}
use Rattle.prl_plan.specs.declared.graphs.Task.{Task}
use Rattle.prl_plan.specs.declared.graphs.TaskGraph.{TaskGraph}
use Rattle.prl_plan.specs.declared.graphs.Kind.{Kind}
use Rattle.prl_plan.specs.declared.graphs.Kind.TheVariants as kinds
use Rattle.prl_plan.specs.declared.graphs.Producer.{Producer}
use Rattle.prl_plan.specs.declared.graphs.Producer.TheVariants as producers
use Rattle.prl_plan.specs.declared.limits.TheConstants.{MAX_TASKS, MAX_EDGES, MAX_HYPER, MAX_PERIOD_JOBS}
use Rattle.prl_plan.specs.Jobs.{task_at}

-- k divides n
abbrev pub Divides : ℕ → ℕ → Type 0
Divides k n = (times : ℕ) × (n ≡ times * k)

-- The operators, from the consumer's end on, take the producer's clock to the consumer's, and each clock on the way
-- has a period of at least 1 that divides the hyperperiod.
abbrev pub TakeClock : ℕ → List Op → Clock → Clock → Type 0
TakeClock hyper [] producer consumer = (1 ≤ consumer.period) × Divides consumer.period hyper × (consumer ≡ producer)
TakeClock hyper (op ∷ ops) producer consumer =
    (1 ≤ consumer.period) × Divides consumer.period hyper × ((between : Clock) × IsResultClock op between consumer × TakeClock hyper ops producer between)

abbrev pub is_sensor : Kind → Bool
is_sensor (kinds.Sensor k) = true
is_sensor (kinds.Node k) = false
is_sensor (kinds.Actuator k) = false

abbrev pub is_actuator : Kind → Bool
is_actuator (kinds.Sensor k) = false
is_actuator (kinds.Node k) = false
is_actuator (kinds.Actuator k) = true

-- The tasks of sensors, of nodes and of actuators stand in this order, and each kind is numbered on from these numbers.
abbrev pub AreNumbered : ℕ → ℕ → ℕ → List Kind → Type 0
AreNumbered sensors nodes actuators [] = Unit {0}
AreNumbered sensors nodes actuators (kinds.Sensor k ∷ rest) =
    (k ≡ sensors) × (nodes ≡ 0) × (actuators ≡ 0) × AreNumbered (sensors + 1) nodes actuators rest
AreNumbered sensors nodes actuators (kinds.Node k ∷ rest) =
    (k ≡ nodes) × (actuators ≡ 0) × AreNumbered sensors (nodes + 1) actuators rest
AreNumbered sensors nodes actuators (kinds.Actuator k ∷ rest) = (k ≡ actuators) × AreNumbered sensors nodes (actuators + 1) rest

-- sensors and actuators are named by a word, node tasks by a word, `@` and the number of the application
abbrev pub IsTaskName : Kind → List ℕ → Type 0
IsTaskName (kinds.Sensor k) name = IsName name
IsTaskName (kinds.Node k) name = (word : List ℕ) × IsName word × (name ≡ word ++ 64 ∷ decimal k)
IsTaskName (kinds.Actuator k) name = IsName name

pub record IsTask (hyper : ℕ) (task : Task) : Type 0 where
  pub name : IsTaskName task.kind task.name
  pub period : (1 ≤ task.clock.period) × (task.clock.period < 2 ^ 31)
  pub start : task.clock.start < 2 ^ 31
  pub wcet : (1 ≤ task.wcet) × (task.wcet < 2 ^ 31)
  pub due : (1 ≤ task.due) × (task.due ≤ task.clock.period)
  pub divides : Divides task.clock.period hyper

-- An edge comes from a constant of its type, or from an output of a task of the graph that is no actuator task; a
-- sensor task has only output 0. The flow of a task has the task's clock.
abbrev pub IsSource : TaskGraph → Edge → Clock → Producer → Type 0
IsSource graph edge clock (producers.Constant value) = IsOfType edge.ty value
IsSource graph edge clock (producers.Port task out) =
    (task.0 < length graph.tasks) × (is_actuator (task_at graph task.0).kind ≡ false) × (is_sensor (task_at graph task.0).kind ≡ true → out ≡ 0)
    × (clock ≡ (task_at graph task.0).clock)

pub record IsEdge (graph : TaskGraph) (edge : Edge) : Type 0 where
  pub to : edge.to.0 < length graph.tasks
  pub receives : is_sensor (task_at graph edge.to.0).kind ≡ false
  pub clocks : (clock : Clock) × (clock.period ≡ edge.period) × IsSource graph edge clock edge.from
      × TakeClock graph.hyper edge.ops clock (task_at graph edge.to.0).clock
  pub operators : (k : ℕ) (op : Op) → slice_get edge.ops k ≡ Some op → IsOperatorFor edge.ty op
  pub few : length edge.ops < 2 ^ 32

-- After an edge into this port of this task, edges stand by consumer and then by port, ports from 0 without a gap.
abbrev pub PortsFollow : ℕ → ℕ → List Edge → Type 0
PortsFollow task port [] = Unit {0}
PortsFollow task port (edge ∷ edges) =
    (((edge.to.0 ≡ task) × (edge.port ≡ port + 1)) ⊎ ((task < edge.to.0) × (edge.port ≡ 0))) × PortsFollow edge.to.0 edge.port edges

abbrev pub AreInOrder : List Edge → Type 0
AreInOrder [] = Unit {0}
AreInOrder (edge ∷ edges) = (edge.port ≡ 0) × PortsFollow edge.to.0 edge.port edges

-- an actuator task has exactly one port
pub record HasOnePort (graph : TaskGraph) (i : ℕ) : Type 0 where
  pub one : (e : ℕ) × (edge : Edge) × (slice_get graph.edges e ≡ Some edge) × (edge.to.0 ≡ i)
  pub only : (e : ℕ) (edge : Edge) → slice_get graph.edges e ≡ Some edge → edge.to.0 ≡ i → edge.port ≡ 0

-- how many jobs the tasks have in a hyperperiod
abbrev pub jobs_in_hyperperiod : TaskGraph → ℕ
jobs_in_hyperperiod graph = sum (map (λ task. graph.hyper / task.clock.period) graph.tasks)

pub record IsWellFormed (graph : TaskGraph) : Type 0 where
  pub kinds : AreNumbered 0 0 0 (map (λ task. task.kind) graph.tasks)
  pub tasks : (i : ℕ) (task : Task) → slice_get graph.tasks i ≡ Some task → IsTask graph.hyper task
  pub names : (i j : ℕ) → i < j → j < length graph.tasks → (task_at graph i).name ≢ (task_at graph j).name
  pub edges : (e : ℕ) (edge : Edge) → slice_get graph.edges e ≡ Some edge → IsEdge graph edge
  pub order : AreInOrder graph.edges
  pub actuators : (i : ℕ) → i < length graph.tasks → is_actuator (task_at graph i).kind ≡ true → HasOnePort graph i
  pub hyper : 1 ≤ graph.hyper
  pub few_tasks : length graph.tasks ≤ MAX_TASKS
  pub few_edges : length graph.edges ≤ MAX_EDGES
  pub few_ticks : graph.hyper ≤ MAX_HYPER
  pub few_jobs : jobs_in_hyperperiod graph ≤ MAX_PERIOD_JOBS
