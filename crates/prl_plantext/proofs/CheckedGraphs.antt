-- The tests of a graph pass exactly where it is well formed.
use Rattle.prl_base.proofs.Standard.{◌≡◌, ◌⊎◌, inl, inr, ◌==◌, ◌+◌, ◌<◌, ◌≤◌, ◌^◌, ◌&&◌, ◌||◌, ℕ, zero, suc, Bool, true, false, not, List, [], ◌∷◌, Option, Some, None, map, length, slice_get, nat_le}
use Rattle.prl_base.proofs.Standard.{nat_lt, refl, ap, sym, ◌∙◌, subst, arith, slice_index_or, list_all, list_any, and_parts, false≢true, get_or_from_slice_get, slice_get_within, slice_get-get_or}
use Rattle.prl_base.specs.Operators.{IsOperatorFor}
use Rattle.prl_base.specs.declared.operators.Clock.{Clock}
use Rattle.prl_base.specs.declared.operators.Op.{Op}
use Rattle.prl_base.specs.declared.values.Ty.{Ty}
use Rattle.prl_plan.specs.Vocabulary.{AreInOrder, AreNumbered, HasOnePort, IsEdge, IsSource, IsTask, IsWellFormed, PortsFollow, TakeClock, is_actuator, is_sensor, jobs_in_hyperperiod, no_task}
use Rattle.prl_plan.specs.Vocabulary.{task_at}
use Rattle.prl_plan.specs.declared.graphs.Edge.{Edge}
use Rattle.prl_plan.specs.declared.graphs.Producer.{Producer}
use Rattle.prl_plan.specs.declared.graphs.Task.{Task}
use Rattle.prl_plan.specs.declared.graphs.TaskGraph.{TaskGraph}
use Rattle.prl_plan.specs.declared.limits.TheConstants.{MAX_EDGES, MAX_HYPER, MAX_PERIOD_JOBS, MAX_TASKS}
use Rattle.prl_plan.specs.declared.graphs.Producer.TheVariants as producers
use Rattle.prl_plantext.specs.code.Checks.{actuators_have_one, are_in_order, are_numbered, comes_with, gives, has_one_port, have_edges, have_own_names, have_tasks, is_edge, is_elsewhere_or_first, is_next, is_operator_for, is_same_clock, is_small, is_source, is_task, is_well_formed, leads_into, may_give, none_counted, ports_follow, producer_clock}
use Rattle.prl_plantext.proofs.Checked.{HaveOwnNames, Tells, and_tells, told_by, below_tells, both, each_tells, equal_tells, least_tells, numbered_tells, own_names_tell, task_tells}
use Rattle.prl_plantext.proofs.CheckedEdges.{AreOperatorsFor, clock_so, clock_then, operator_tells, operators_are, type_tells}

-- one of two tests, a test that fails, and an implication

or_tells : {P Q : Type 0} (a b : Bool) → Tells a P → Tells b Q → Tells (a || b) (P ⊎ Q)
or_tells true b p q = record { so = λ e. inl (p.so refl); then = λ h. refl }
or_tells false b p q = record { so = λ e. inr (q.so e); then = λ h. elim h [ inl x ↦ absurd (false≢true (p.then x)) | inr y ↦ q.then y ] }

not_tells : (a : Bool) → Tells (not a) (a ≡ false)
not_tells true = record { so = λ e. sym e; then = λ h. sym h }
not_tells false = record { so = λ e. refl; then = λ h. refl }

implies_tells : {P Q : Type 0} (a b : Bool) → Tells a P → Tells b Q → Tells (not a || b) (P → Q)
implies_tells true b p q = record { so = λ e x. q.so e; then = λ h. q.then (h (p.so refl)) }
implies_tells false b p q = record { so = λ e x. absurd (false≢true (p.then x)); then = λ h. refl }

itself_tells : (a : Bool) → Tells a (a ≡ true)
itself_tells a = record { so = λ e. e; then = λ e. e }

-- clocks and producers

same_clock_tells : (a b : Clock) → Tells (is_same_clock a b) (a ≡ b)
same_clock_tells a b =
    told_by (and_tells (a.period == b.period) (a.start == b.start) (equal_tells a.period b.period) (equal_tells a.start b.start))
    (λ h. same_parts a b h.0 h.1) (λ e. (ap (λ (c : Clock). c.period) e, ap (λ (c : Clock). c.start) e))
  where
    same_parts : (a b : Clock) → a.period ≡ b.period → a.start ≡ b.start → a ≡ b
    same_parts a b e f =
        ap (λ p. (let c : Clock = record { period = p; start = a.start } in c)) e
        ∙ ap (λ s. (let c : Clock = record { period = b.period; start = s } in c)) f

abbrev Gives : Task → ℕ → Clock → Type 0
Gives task out clock = ((is_actuator task.kind ≡ false) × (is_sensor task.kind ≡ true → out ≡ 0)) × (clock ≡ task.clock)

gives_tells : (task : Task) (out : ℕ) (clock : Clock) → Tells (gives task out clock) (Gives task out clock)
gives_tells task out clock =
    and_tells (not (is_actuator task.kind) && (not (is_sensor task.kind) || (out == 0))) (is_same_clock clock task.clock)
    (and_tells (not (is_actuator task.kind)) (not (is_sensor task.kind) || (out == 0)) (not_tells (is_actuator task.kind))
    (implies_tells (is_sensor task.kind) (out == 0) (itself_tells (is_sensor task.kind)) (equal_tells out 0)))
    (same_clock_tells clock task.clock)

task_is : (graph : TaskGraph) (k : ℕ) (task : Task) → slice_get graph.tasks k ≡ Some task → task_at graph k ≡ task
task_is graph k task at = get_or_from_slice_get graph.tasks k task no_task at

port_so : (graph : TaskGraph) (k out : ℕ) (clock : Clock) (found : Option Task) → slice_get graph.tasks k ≡ found → may_give found out clock ≡ true →
    (k < length graph.tasks) × (is_actuator (task_at graph k).kind ≡ false) × (is_sensor (task_at graph k).kind ≡ true → out ≡ 0) × (clock ≡ (task_at graph k).clock)
port_so graph k out clock None at e = absurd (false≢true e)
port_so graph k out clock (Some task) at e =
    let g = subst (λ t. Gives t out clock) (sym (task_is graph k task at)) ((gives_tells task out clock).so e) in
    (slice_get_within graph.tasks k task at, g.0.0, g.0.1, g.1)

port_then : (graph : TaskGraph) (k out : ℕ) (clock : Clock) → k < length graph.tasks → Gives (task_at graph k) out clock →
    may_give (slice_get graph.tasks k) out clock ≡ true
port_then graph k out clock inside g =
    ap (λ o. may_give o out clock) (slice_get-get_or graph.tasks k no_task inside) ∙ (gives_tells (task_at graph k) out clock).then g

source_tells : (graph : TaskGraph) (edge : Edge) (clock : Clock) (from : Producer) → Tells (is_source graph.tasks edge.ty clock from) (IsSource graph edge clock from)
source_tells graph edge clock (producers.Constant value) = type_tells edge.ty value
source_tells graph edge clock (producers.Port task out) = record {
  so = λ e. port_so graph task.0 out clock (slice_get graph.tasks task.0) refl e;
  then = λ h. port_then graph task.0 out clock h.0 ((h.1, h.2), h.3);
}

-- edges

abbrev HasClock : TaskGraph → Edge → Clock → Type 0
HasClock graph edge consumer =
    (clock : Clock) × (clock.period ≡ edge.period) × IsSource graph edge clock edge.from × TakeClock graph.hyper edge.ops clock consumer

comes_so : (graph : TaskGraph) (edge : Edge) (consumer : Clock) (found : Option Clock) → AreOperatorsFor edge.ty edge.ops →
    producer_clock graph.hyper edge.ops consumer ≡ found → comes_with graph.tasks edge found ≡ true → HasClock graph edge consumer
comes_so graph edge consumer None are at e = absurd (false≢true e)
comes_so graph edge consumer (Some clock) are at e =
    let h = (and_tells (clock.period == edge.period) (is_source graph.tasks edge.ty clock edge.from) (equal_tells clock.period edge.period)
    (source_tells graph edge clock edge.from)).so e in
    (clock, h.0, h.1, clock_so graph.hyper edge.ty edge.ops consumer clock are at)

comes_then : (graph : TaskGraph) (edge : Edge) (consumer : Clock) → AreOperatorsFor edge.ty edge.ops → HasClock graph edge consumer →
    comes_with graph.tasks edge (producer_clock graph.hyper edge.ops consumer) ≡ true
comes_then graph edge consumer are has =
    ap (comes_with graph.tasks edge) (clock_then graph.hyper edge.ty edge.ops consumer has.0 are has.3)
    ∙ both (has.0.period == edge.period) (is_source graph.tasks edge.ty has.0 edge.from) ((equal_tells has.0.period edge.period).then has.1)
    ((source_tells graph edge has.0 edge.from).then has.2)

operators_from : (ty : Ty) (ops : List Op) → ((k : ℕ) (op : Op) → slice_get ops k ≡ Some op → IsOperatorFor ty op) → AreOperatorsFor ty ops
operators_from ty [] all = tt
operators_from ty (op ∷ ops) all = (all 0 op refl, operators_from ty ops (λ k other at. all (suc k) other at))

edge_so : (graph : TaskGraph) (edge : Edge) (found : Option Task) → slice_get graph.tasks edge.to.0 ≡ found → leads_into graph.hyper graph.tasks edge found ≡ true →
    IsEdge graph edge
edge_so graph edge None at e = absurd (false≢true e)
edge_so graph edge (Some consumer) at e =
    let outer = and_parts _ _ e in
    let middle = and_parts _ _ outer.0 in
    let inner = and_parts _ _ middle.0 in
    let is = task_is graph edge.to.0 consumer at in
    record {
      to = slice_get_within graph.tasks edge.to.0 consumer at;
      receives = ap (λ (t : Task). is_sensor t.kind) is ∙ (not_tells (is_sensor consumer.kind)).so inner.0;
      clocks = subst (λ (t : Task). HasClock graph edge t.clock) (sym is)
          (comes_so graph edge consumer.clock (producer_clock graph.hyper edge.ops consumer.clock) (operators_are edge.ty edge.ops middle.1) refl outer.1);
      operators = (each_tells (is_operator_for edge.ty) (IsOperatorFor edge.ty) edge.ops (operator_tells edge.ty)).so middle.1;
      few = (below_tells (length edge.ops) (2 ^ 32)).so inner.1;
    }

edge_then : (graph : TaskGraph) (edge : Edge) → IsEdge graph edge → is_edge graph.hyper graph.tasks edge ≡ true
edge_then graph edge is =
    let consumer = task_at graph edge.to.0 in
    ap (leads_into graph.hyper graph.tasks edge) (slice_get-get_or graph.tasks edge.to.0 no_task is.to)
    ∙ both _ (comes_with graph.tasks edge (producer_clock graph.hyper edge.ops consumer.clock))
    (both _ (list_all (is_operator_for edge.ty) edge.ops)
    (both (not (is_sensor consumer.kind)) (nat_lt (length edge.ops) (2 ^ 32)) ((not_tells (is_sensor consumer.kind)).then is.receives)
    ((below_tells (length edge.ops) (2 ^ 32)).then is.few))
    ((each_tells (is_operator_for edge.ty) (IsOperatorFor edge.ty) edge.ops (operator_tells edge.ty)).then is.operators))
    (comes_then graph edge consumer.clock (operators_from edge.ty edge.ops is.operators) is.clocks)

edge_tells : (graph : TaskGraph) (edge : Edge) → Tells (is_edge graph.hyper graph.tasks edge) (IsEdge graph edge)
edge_tells graph edge = record { so = edge_so graph edge (slice_get graph.tasks edge.to.0) refl; then = edge_then graph edge }

-- their order

abbrev IsNext : ℕ → ℕ → Edge → Type 0
IsNext task port edge = ((edge.to.0 ≡ task) × (edge.port ≡ port + 1)) ⊎ ((task < edge.to.0) × (edge.port ≡ 0))

next_tells : (task port : ℕ) (edge : Edge) → Tells (is_next task port edge) (IsNext task port edge)
next_tells task port edge =
    or_tells ((edge.to.0 == task) && (edge.port == port + 1)) (nat_lt task edge.to.0 && (edge.port == 0))
    (and_tells (edge.to.0 == task) (edge.port == port + 1) (equal_tells edge.to.0 task) (equal_tells edge.port (port + 1)))
    (and_tells (nat_lt task edge.to.0) (edge.port == 0) (below_tells task edge.to.0) (equal_tells edge.port 0))

follow_tell : (task port : ℕ) (edges : List Edge) → Tells (ports_follow task port edges) (PortsFollow task port edges)
follow_tell task port [] = record { so = λ e. tt; then = λ h. refl }
follow_tell task port (edge ∷ edges) =
    and_tells (is_next task port edge) (ports_follow edge.to.0 edge.port edges) (next_tells task port edge) (follow_tell edge.to.0 edge.port edges)

order_tells : (edges : List Edge) → Tells (are_in_order edges) (AreInOrder edges)
order_tells [] = record { so = λ e. tt; then = λ h. refl }
order_tells (edge ∷ edges) =
    and_tells (edge.port == 0) (ports_follow edge.to.0 edge.port edges) (equal_tells edge.port 0) (follow_tell edge.to.0 edge.port edges)

-- actuators

abbrev Has : {A : Type 0} → (A → Type 0) → List A → Type 0
Has {A} P items = (k : ℕ) × (item : A) × (slice_get items k ≡ Some item) × P item

has_more : {A : Type 0} (P : A → Type 0) (first : A) (items : List A) → P first ⊎ Has P items → Has P (first ∷ items)
has_more P first items (inl here) = (0, first, refl, here)
has_more P first items (inr later) = (suc later.0, later.1, later.2, later.3)

same_item : {A : Type 0} (x y : A) → Some x ≡ Some y → x ≡ y
same_item x y e = cc

has_first : {A : Type 0} (P : A → Type 0) (first : A) (items : List A) (k : ℕ) (item : A) → slice_get (first ∷ items) k ≡ Some item → P item → P first ⊎ Has P items
has_first P first items zero item at p = inl (subst P (sym (same_item first item at)) p)
has_first P first items (suc k) item at p = inr (k, item, at, p)

has_none : {A : Type 0} (P : A → Type 0) (k : ℕ) (item : A) → slice_get [] k ≡ Some item → ⊥
has_none P k item at = cc

any_tells : {A : Type 0} (test : A → Bool) (P : A → Type 0) (items : List A) → ((item : A) → Tells (test item) (P item)) → Tells (list_any test items) (Has P items)
any_tells test P [] each = record { so = λ e. absurd (false≢true e); then = λ h. absurd (has_none P h.0 h.1 h.2) }
any_tells test P (first ∷ items) each =
    told_by (or_tells (test first) (list_any test items) (each first) (any_tells test P items each))
    (has_more P first items) (λ h. has_first P first items h.0 h.1 h.2 h.3)

one_port_tells : (graph : TaskGraph) (i : ℕ) → Tells (has_one_port graph.edges i) (HasOnePort graph i)
one_port_tells graph i =
    told_by
    (and_tells (list_any (λ (edge : Edge). edge.to.0 == i) graph.edges) (list_all (is_elsewhere_or_first i) graph.edges)
    (any_tells (λ (edge : Edge). edge.to.0 == i) (λ (edge : Edge). edge.to.0 ≡ i) graph.edges (λ edge. equal_tells edge.to.0 i))
    (each_tells (is_elsewhere_or_first i) (λ (edge : Edge). edge.to.0 ≡ i → edge.port ≡ 0) graph.edges
    (λ edge. implies_tells (edge.to.0 == i) (edge.port == 0) (equal_tells edge.to.0 i) (equal_tells edge.port 0))))
    (λ h. record { one = h.0; only = h.1 }) (λ is. (is.one, is.only))

abbrev HaveOnePort : TaskGraph → ℕ → List Task → Type 0
HaveOnePort graph i tasks =
    (k : ℕ) → k < length tasks → is_actuator (slice_index_or tasks k no_task).kind ≡ true → HasOnePort graph (i + k)

same_place : (i : ℕ) → i ≡ i + 0
same_place i = omega arith

ports_so : (graph : TaskGraph) (i : ℕ) (tasks : List Task) → actuators_have_one graph.edges i tasks ≡ true → HaveOnePort graph i tasks
ports_so graph i [] e k inside is = absurd (omega (arith, inside))
ports_so graph i (task ∷ tasks) e zero inside is =
    subst (HasOnePort graph) (same_place i)
    ((implies_tells (is_actuator task.kind) (has_one_port graph.edges i) (itself_tells (is_actuator task.kind)) (one_port_tells graph i)).so
    (and_parts _ _ e).0 is)
ports_so graph i (task ∷ tasks) e (suc k) inside is =
    subst (HasOnePort graph) (moved i k) (ports_so graph (i + 1) tasks (and_parts _ _ e).1 k (omega (arith, inside)) is)
  where
    moved : (i k : ℕ) → i + 1 + k ≡ i + suc k
    moved i k = omega arith

ports_then : (graph : TaskGraph) (i : ℕ) (tasks : List Task) → HaveOnePort graph i tasks → actuators_have_one graph.edges i tasks ≡ true
ports_then graph i [] h = refl
ports_then graph i (task ∷ tasks) h =
    both _ (actuators_have_one graph.edges (i + 1) tasks)
    ((implies_tells (is_actuator task.kind) (has_one_port graph.edges i) (itself_tells (is_actuator task.kind)) (one_port_tells graph i)).then
    (λ is. subst (HasOnePort graph) (first_one i) (h 0 (omega arith) is)))
    (ports_then graph (i + 1) tasks (λ k inside is. subst (HasOnePort graph) (next_one i k) (h (suc k) (omega (arith, inside)) is)))
  where
    first_one : (i : ℕ) → i + 0 ≡ i
    first_one i = omega arith

    next_one : (i k : ℕ) → i + suc k ≡ i + 1 + k
    next_one i k = omega arith

from_zero : (graph : TaskGraph) → HaveOnePort graph 0 graph.tasks →
    (i : ℕ) → i < length graph.tasks → is_actuator (task_at graph i).kind ≡ true → HasOnePort graph i
from_zero graph h i inside is = subst (HasOnePort graph) (zero_plus i) (h i inside is)
  where
    zero_plus : (i : ℕ) → 0 + i ≡ i
    zero_plus i = omega arith

to_zero : (graph : TaskGraph) → ((i : ℕ) → i < length graph.tasks → is_actuator (task_at graph i).kind ≡ true → HasOnePort graph i) →
    HaveOnePort graph 0 graph.tasks
to_zero graph h i inside is = subst (HasOnePort graph) (plus_zero i) (h i inside is)
  where
    plus_zero : (i : ℕ) → i ≡ 0 + i
    plus_zero i = omega arith

-- graphs

abbrev Small : TaskGraph → Type 0
Small graph =
    (((length graph.tasks ≤ MAX_TASKS) × (length graph.edges ≤ MAX_EDGES)) × (1 ≤ graph.hyper)) × (graph.hyper ≤ MAX_HYPER)

small_tells : (graph : TaskGraph) → Tells (is_small graph) (Small graph)
small_tells graph =
    and_tells _ (nat_le graph.hyper MAX_HYPER)
    (and_tells _ (nat_le 1 graph.hyper)
    (and_tells (nat_le (length graph.tasks) MAX_TASKS) (nat_le (length graph.edges) MAX_EDGES) (least_tells (length graph.tasks) MAX_TASKS) (least_tells (length graph.edges) MAX_EDGES))
    (least_tells 1 graph.hyper))
    (least_tells graph.hyper MAX_HYPER)

abbrev RightTasks : TaskGraph → Type 0
RightTasks graph =
    (((AreNumbered 0 0 0 (map (λ (task : Task). task.kind) graph.tasks) × ((i : ℕ) (task : Task) → slice_get graph.tasks i ≡ Some task → IsTask graph.hyper task)) × HaveOwnNames graph.tasks)
    × (jobs_in_hyperperiod graph ≤ MAX_PERIOD_JOBS))

tasks_tell : (graph : TaskGraph) → Tells (have_tasks graph.hyper graph.tasks) (RightTasks graph)
tasks_tell graph =
    and_tells _ (nat_le (jobs_in_hyperperiod graph) MAX_PERIOD_JOBS)
    (and_tells _ (have_own_names graph.tasks)
    (and_tells (are_numbered none_counted graph.tasks) (list_all (is_task graph.hyper) graph.tasks) (numbered_tells none_counted graph.tasks)
    (each_tells (is_task graph.hyper) (IsTask graph.hyper) graph.tasks (task_tells graph.hyper)))
    (own_names_tell graph.tasks))
    (least_tells (jobs_in_hyperperiod graph) MAX_PERIOD_JOBS)

abbrev RightEdges : TaskGraph → Type 0
RightEdges graph =
    ((((e : ℕ) (edge : Edge) → slice_get graph.edges e ≡ Some edge → IsEdge graph edge) × AreInOrder graph.edges)
    × ((i : ℕ) → i < length graph.tasks → is_actuator (task_at graph i).kind ≡ true → HasOnePort graph i))

edges_tell : (graph : TaskGraph) → Tells (have_edges graph.hyper graph.tasks graph.edges) (RightEdges graph)
edges_tell graph =
    and_tells _ (actuators_have_one graph.edges 0 graph.tasks)
    (and_tells (list_all (is_edge graph.hyper graph.tasks) graph.edges) (are_in_order graph.edges)
    (each_tells (is_edge graph.hyper graph.tasks) (IsEdge graph) graph.edges (edge_tells graph)) (order_tells graph.edges))
    (record { so = λ e. from_zero graph (ports_so graph 0 graph.tasks e); then = λ h. ports_then graph 0 graph.tasks (to_zero graph h) })

well_so : (graph : TaskGraph) → ((Small graph × RightTasks graph) × RightEdges graph) → IsWellFormed graph
well_so graph h = record {
  kinds = h.0.1.0.0.0;
  tasks = h.0.1.0.0.1;
  names = h.0.1.0.1;
  edges = h.1.0.0;
  order = h.1.0.1;
  actuators = h.1.1;
  hyper = h.0.0.0.1;
  few_tasks = h.0.0.0.0.0;
  few_edges = h.0.0.0.0.1;
  few_ticks = h.0.0.1;
  few_jobs = h.0.1.1;
}

well_then : (graph : TaskGraph) → IsWellFormed graph → ((Small graph × RightTasks graph) × RightEdges graph)
well_then graph is = (
  ((((is.few_tasks, is.few_edges), is.hyper), is.few_ticks), (((is.kinds, is.tasks), is.names), is.few_jobs)),
  ((is.edges, is.order), is.actuators),
)

pub well_formed_tells : (graph : TaskGraph) → Tells (is_well_formed graph) (IsWellFormed graph)
well_formed_tells graph =
    told_by (and_tells _ (have_edges graph.hyper graph.tasks graph.edges) (and_tells (is_small graph) (have_tasks graph.hyper graph.tasks) (small_tells graph) (tasks_tell graph)) (edges_tell graph))
    (well_so graph) (well_then graph)
