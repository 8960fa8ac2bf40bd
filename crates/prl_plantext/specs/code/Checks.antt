-- How a graph is tested for being well formed: a test for each field of the definition.
use Rattle.std.specs.Prelude.{◌==◌, ◌+◌, ◌-◌, ◌*◌, ◌/◌, ◌%◌, ◌&&◌, ◌||◌, ◌^◌, ℕ, Bool, true, false, not, List, [], ◌∷◌, Option, Some, None, length, map, sum, slice_get, nat_abs, nat_le, nat_lt, int_le, ℤ, pos, negsuc, decimal, if◌then◌else◌}
use Rattle.std.specs.List.{list_all, list_any}
use Rattle.std.specs.Str.{byte, bytes_eq}
use Rattle.prl_base.specs.Names.{is_word}
use Rattle.prl_base.specs.Options.{◌>>=◌}
use Rattle.prl_base.specs.declared.decimals.TheConstants.{MAX_NEGATIVE, MAX_POSITIVE}
use Rattle.prl_base.specs.declared.names.TheConstants.{MAX_NAME}
use Rattle.prl_base.specs.declared.operators.Clock.{Clock}
use Rattle.prl_base.specs.declared.operators.Op.{Op}
use Rattle.prl_base.specs.declared.operators.Op.TheVariants as operators
use Rattle.prl_base.specs.declared.operators.TheConstants.{MAX_FACTOR}
use Rattle.prl_base.specs.declared.values.Ty.{Ty}
use Rattle.prl_base.specs.declared.values.Ty.TheVariants as types
use Rattle.prl_base.specs.declared.values.Value.{Value}
use Rattle.prl_base.specs.declared.values.Value.TheVariants as values
use Rattle.prl_plan.specs.Graphs.{is_sensor, is_actuator}
use Rattle.prl_plan.specs.declared.graphs.Edge.{Edge}
use Rattle.prl_plan.specs.declared.graphs.Kind.{Kind}
use Rattle.prl_plan.specs.declared.graphs.Kind.TheVariants as kinds
use Rattle.prl_plan.specs.declared.graphs.Producer.{Producer}
use Rattle.prl_plan.specs.declared.graphs.Producer.TheVariants as producers
use Rattle.prl_plan.specs.declared.graphs.Task.{Task}
use Rattle.prl_plan.specs.declared.graphs.TaskGraph.{TaskGraph}
use Rattle.prl_plan.specs.declared.limits.TheConstants.{MAX_TASKS, MAX_EDGES, MAX_HYPER, MAX_PERIOD_JOBS}
use Rattle.prl_plantext.specs.code.Graphs.{before, after}
use Rattle.prl_plantext.specs.declared.checking.Counts.{Counts}

-- no task yet
abbrev pub none_counted : Counts
none_counted = record { sensors = 0; nodes = 0; actuators = 0 }

-- after so many, a task of this kind may come next, with this number
abbrev pub may_follow : Counts → Kind → Bool
may_follow c (kinds.Sensor k) = (k == c.sensors) && (c.nodes == 0) && (c.actuators == 0)
may_follow c (kinds.Node k) = (k == c.nodes) && (c.actuators == 0)
may_follow c (kinds.Actuator k) = k == c.actuators

abbrev pub counted : Counts → Kind → Counts
counted c (kinds.Sensor k) = record { sensors = c.sensors + 1; nodes = c.nodes; actuators = c.actuators }
counted c (kinds.Node k) = record { sensors = c.sensors; nodes = c.nodes + 1; actuators = c.actuators }
counted c (kinds.Actuator k) = record { sensors = c.sensors; nodes = c.nodes; actuators = c.actuators + 1 }

abbrev pub are_numbered : Counts → List Task → Bool
are_numbered c [] = true
are_numbered c (task ∷ tasks) = may_follow c task.kind && are_numbered (counted c task.kind) tasks

abbrev pub is_name : List ℕ → Bool
is_name bytes = is_word bytes && nat_le (length bytes) MAX_NAME

abbrev pub is_task_name : Kind → List ℕ → Bool
is_task_name (kinds.Sensor k) name = is_name name
is_task_name (kinds.Node k) name = is_name (before (byte "@") name) && bytes_eq (after (byte "@") name) (decimal k)
is_task_name (kinds.Actuator k) name = is_name name

-- at least 1 and below 2^31
abbrev pub is_positive : ℕ → Bool
is_positive n = nat_le 1 n && nat_lt n (2 ^ 31)

-- a number from 1 on that divides the other
abbrev pub divides : ℕ → ℕ → Bool
divides k n = nat_le 1 k && (n % k == 0)

abbrev pub is_task : ℕ → Task → Bool
is_task hyper task =
    is_task_name task.kind task.name && is_positive task.clock.period && nat_lt task.clock.start (2 ^ 31) && is_positive task.wcet
    && nat_le 1 task.due && nat_le task.due task.clock.period && divides task.clock.period hyper

abbrev pub has_name : List ℕ → List Task → Bool
has_name name tasks = list_any (λ task. bytes_eq task.name name) tasks

-- no task has the name of a later one
abbrev pub have_own_names : List Task → Bool
have_own_names [] = true
have_own_names (task ∷ tasks) = not (has_name task.name tasks) && have_own_names tasks

-- a number of 64 bits, as all are that values hold
abbrev pub is_integer : ℤ → Bool
is_integer (pos n) = nat_le n MAX_POSITIVE
is_integer (negsuc n) = nat_lt n MAX_NEGATIVE

abbrev pub is_of_type : Ty → Value → Bool
is_of_type types.Int (values.Int n) = is_integer n
is_of_type types.Int (values.Bool b) = false
is_of_type types.Bool (values.Int n) = false
is_of_type types.Bool (values.Bool b) = true

abbrev pub is_factor : ℕ → Bool
is_factor k = nat_le 1 k && nat_le k MAX_FACTOR

abbrev pub is_operator_for : Ty → Op → Bool
is_operator_for ty (operators.Fby c) = is_of_type ty c
is_operator_for ty (operators.Cons c) = is_of_type ty c
is_operator_for ty operators.Tail = true
is_operator_for ty (operators.Up k) = is_factor k
is_operator_for ty (operators.Down k) = is_factor k
is_operator_for ty (operators.Shift q) = nat_le 1 q.den && int_le (pos 0) q.num

-- the clock of this period so much earlier, if it is one
abbrev pub earlier_by : ℕ → Clock → Option Clock
earlier_by ticks clock = if nat_le ticks clock.start then Some (record { period = clock.period; start = clock.start - ticks }) else None

abbrev pub earlier_by_parts : ℕ → ℕ → Clock → Option Clock
earlier_by_parts ticks of clock = if ticks % of == 0 then earlier_by (ticks / of) clock else None

-- the clock so many times as fast, if it is one
abbrev pub faster : ℕ → Clock → Option Clock
faster k clock = if clock.period % k == 0 then Some (record { period = clock.period / k; start = clock.start }) else None

-- the clock of the flow that an operator stands on, from the clock of its result
abbrev pub clock_before : Op → Clock → Option Clock
clock_before (operators.Fby c) clock = Some clock
clock_before (operators.Cons c) clock = Some (record { period = clock.period; start = clock.start + clock.period })
clock_before operators.Tail clock = earlier_by clock.period clock
clock_before (operators.Up k) clock = Some (record { period = k * clock.period; start = clock.start })
clock_before (operators.Down k) clock = faster k clock
clock_before (operators.Shift q) clock = earlier_by_parts (nat_abs q.num * clock.period) q.den clock

-- the producer's clock, from the consumer's
abbrev pub producer_clock : ℕ → List Op → Clock → Option Clock
producer_clock hyper [] clock = if divides clock.period hyper then Some clock else None
producer_clock hyper (op ∷ ops) clock =
    if divides clock.period hyper then clock_before op clock >>= producer_clock hyper ops else None

abbrev pub is_same_clock : Clock → Clock → Bool
is_same_clock a b = (a.period == b.period) && (a.start == b.start)

-- the task may give a flow with this clock at this output
abbrev pub gives : Task → ℕ → Clock → Bool
gives task out clock =
    not (is_actuator task.kind) && (not (is_sensor task.kind) || (out == 0)) && is_same_clock clock task.clock

abbrev pub may_give : Option Task → ℕ → Clock → Bool
may_give None out clock = false
may_give (Some task) out clock = gives task out clock

abbrev pub is_source : List Task → Ty → Clock → Producer → Bool
is_source tasks ty clock (producers.Constant value) = is_of_type ty value
is_source tasks ty clock (producers.Port task out) = may_give (slice_get tasks task.0) out clock

-- the clock is the producer's
abbrev pub comes_with : List Task → Edge → Option Clock → Bool
comes_with tasks edge None = false
comes_with tasks edge (Some clock) = (clock.period == edge.period) && is_source tasks edge.ty clock edge.from

abbrev pub is_edge_into : ℕ → List Task → Edge → Task → Bool
is_edge_into hyper tasks edge consumer =
    not (is_sensor consumer.kind) && nat_lt (length edge.ops) (2 ^ 32) && list_all (is_operator_for edge.ty) edge.ops
    && comes_with tasks edge (producer_clock hyper edge.ops consumer.clock)

abbrev pub leads_into : ℕ → List Task → Edge → Option Task → Bool
leads_into hyper tasks edge None = false
leads_into hyper tasks edge (Some consumer) = is_edge_into hyper tasks edge consumer

abbrev pub is_edge : ℕ → List Task → Edge → Bool
is_edge hyper tasks edge = leads_into hyper tasks edge (slice_get tasks edge.to.0)

-- the edge may stand after one into this port of this task
abbrev pub is_next : ℕ → ℕ → Edge → Bool
is_next task port edge = ((edge.to.0 == task) && (edge.port == port + 1)) || (nat_lt task edge.to.0 && (edge.port == 0))

abbrev pub ports_follow : ℕ → ℕ → List Edge → Bool
ports_follow task port [] = true
ports_follow task port (edge ∷ edges) = is_next task port edge && ports_follow edge.to.0 edge.port edges

abbrev pub are_in_order : List Edge → Bool
are_in_order [] = true
are_in_order (edge ∷ edges) = (edge.port == 0) && ports_follow edge.to.0 edge.port edges

-- the edge does not lead to the task, or to its port 0
abbrev pub is_elsewhere_or_first : ℕ → Edge → Bool
is_elsewhere_or_first i edge = not (edge.to.0 == i) || (edge.port == 0)

abbrev pub has_one_port : List Edge → ℕ → Bool
has_one_port edges i = list_any (λ (edge : Edge). edge.to.0 == i) edges && list_all (is_elsewhere_or_first i) edges

-- of the tasks from number i on, each actuator has one port
abbrev pub actuators_have_one : List Edge → ℕ → List Task → Bool
actuators_have_one edges i [] = true
actuators_have_one edges i (task ∷ tasks) =
    (not (is_actuator task.kind) || has_one_port edges i) && actuators_have_one edges (i + 1) tasks

-- few enough tasks, edges and ticks
abbrev pub is_small : TaskGraph → Bool
is_small graph =
    nat_le (length graph.tasks) MAX_TASKS && nat_le (length graph.edges) MAX_EDGES && nat_le 1 graph.hyper && nat_le graph.hyper MAX_HYPER

abbrev pub have_tasks : ℕ → List Task → Bool
have_tasks hyper tasks =
    are_numbered none_counted tasks && list_all (is_task hyper) tasks && have_own_names tasks
    && nat_le (sum (map (λ task. hyper / task.clock.period) tasks)) MAX_PERIOD_JOBS

abbrev pub have_edges : ℕ → List Task → List Edge → Bool
have_edges hyper tasks edges = list_all (is_edge hyper tasks) edges && are_in_order edges && actuators_have_one edges 0 tasks

abbrev pub is_well_formed : TaskGraph → Bool
is_well_formed graph =
    is_small graph && have_tasks graph.hyper graph.tasks && have_edges graph.hyper graph.tasks graph.edges
