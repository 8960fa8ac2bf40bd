-- A plan's text is read back to the plan's graph.
use Rattle.prl_base.proofs.Standard.{◌≡◌, inl, inr, ◌++◌, ◌+◌, ◌*◌, ◌<◌, ◌≤◌, ◌^◌, ℕ, zero, suc, Bool, true, List, [], ◌∷◌, Some, cond, map, length, length-append, slice_get, nat_le, append_assoc}
use Rattle.prl_base.proofs.Standard.{refl, ap, sym, ◌∙◌, subst, if◌then◌else◌, arith, decimal, codes, bytes_eq, nat_tests, sum_by-append, sum_by-cons}
use Rattle.std.proofs.Common.{append-nil}
use Rattle.prl_base.specs.Operators.{IsOperatorFor}
use Rattle.prl_base.specs.declared.operators.Clock.{Clock}
use Rattle.prl_base.specs.declared.operators.Op.{Op}
use Rattle.prl_base.specs.declared.values.Ty.{Ty}
use Rattle.prl_plan.specs.Vocabulary.{AreInOrder, AreNumbered, Divides, IsEdge, IsSource, IsTask, IsTaskName, IsWellFormed, PortsFollow, TakeClock, PlanView, IsPlan, HasSmallOutput, HasSmallShift}
use Rattle.prl_plan.specs.Vocabulary.{IsRepresentable}
use Rattle.prl_plan.specs.declared.graphs.Edge.{Edge}
use Rattle.prl_plan.specs.declared.graphs.Kind.{Kind}
use Rattle.prl_plan.specs.declared.graphs.Producer.{Producer}
use Rattle.prl_plan.specs.declared.graphs.Task.{Task}
use Rattle.prl_plan.specs.declared.graphs.TaskGraph.{TaskGraph}
use Rattle.prl_plan.specs.declared.limits.TheConstants.{MAX_EDGES, MAX_HYPER, MAX_TASKS}
use Rattle.prl_plan.specs.declared.graphs.Kind.TheVariants as kinds
use Rattle.prl_plan.specs.declared.graphs.Producer.TheVariants as producers
use Rattle.prl_plantext.specs.PlanTexts.{cells_line_words, cells_words, dates_words, edge_words, kind_text, line, numbered, plan_text, task_words, word_words}
use Rattle.prl_plantext.specs.code.Graphs.{count_named, empty, first_of, graph_of, kind_named, lines_in, rest_of, with_lines, with_words}
use Rattle.prl_plantext.proofs.Cuts.{ArePrinted, lines_of_line, words_of_line}
use Rattle.prl_plantext.proofs.Numbers.{number_of_decimal}
use Rattle.prl_plantext.proofs.Printed.{printed_cells, printed_dates, printed_edge, printed_head, printed_hyper, printed_task, printed_word}
use Rattle.prl_plantext.proofs.ReadBack.{AreReadable, IsReadableEdge, IsReadableProducer, IsReadableTask, edge_back, task_back}

-- each item of a list is so
abbrev pub Each : {A : Type 0} → (A → Type 0) → List A → Type 0
Each P [] = Unit {0}
Each P (item ∷ items) = P item × Each P items

each_of : {A : Type 0} (P : A → Type 0) (items : List A) → ((k : ℕ) (item : A) → slice_get items k ≡ Some item → P item) → Each P items
each_of P [] all = tt
each_of P (item ∷ items) all = (all 0 item refl, each_of P items (λ k other at. all (suc k) other at))

-- one line

line_step : (graph : TaskGraph) (words : List (List ℕ)) (text : List ℕ) → ArePrinted words →
    with_lines graph (lines_in (line words ++ text)) ≡ with_lines (with_words graph (first_of words) (rest_of words)) (lines_in text)
line_step graph words text are =
    ap (with_lines graph) (lines_of_line words text are)
    ∙ ap (λ (ws : List (List ℕ)). with_lines (with_words graph (first_of ws) (rest_of ws)) (lines_in text)) (words_of_line words are)

numbered_step : {A : Type 0} (graph : TaskGraph) (words : ℕ → A → List (List ℕ)) (k : ℕ) (item : A) (items : List A) (text : List ℕ) → ArePrinted (words k item) →
    with_lines graph (lines_in (numbered words k (item ∷ items) ++ text))
    ≡ with_lines (with_words graph (first_of (words k item)) (rest_of (words k item))) (lines_in (numbered words (k + 1) items ++ text))
numbered_step graph words k item items text are =
    ap (λ t. with_lines graph (lines_in t)) (append_assoc (line (words k item)) (numbered words (k + 1) items) text)
    ∙ line_step graph (words k item) (numbered words (k + 1) items ++ text) are

-- lines that tell nothing of the graph

abbrev pub IsSkipped : List (List ℕ) → Type 0
IsSkipped words = ArePrinted words × ((graph : TaskGraph) → with_words graph (first_of words) (rest_of words) ≡ graph)

skip_lines : {A : Type 0} (words : ℕ → A → List (List ℕ)) (k : ℕ) (items : List A) (text : List ℕ) (graph : TaskGraph) →
    ((k : ℕ) (item : A) → IsSkipped (words k item)) → with_lines graph (lines_in (numbered words k items ++ text)) ≡ with_lines graph (lines_in text)
skip_lines words k [] text graph skipped = refl
skip_lines words k (item ∷ items) text graph skipped =
    numbered_step graph words k item items text (skipped k item).0
    ∙ ap (λ g. with_lines g (lines_in (numbered words (k + 1) items ++ text))) ((skipped k item).1 graph)
    ∙ skip_lines words (k + 1) items text graph skipped

skipped_cells : (k : ℕ) (from : Producer) (base count : ℕ) → IsSkipped (cells_words k from base count)
skipped_cells k (producers.Port task out) base count = (printed_cells k (producers.Port task out) base count, λ graph. refl)
skipped_cells k (producers.Constant value) base count = (printed_cells k (producers.Constant value) base count, λ graph. refl)

-- tasks

abbrev pub KindsFollow : List Task → List Task → Type 0
KindsFollow earlier [] = Unit {0}
KindsFollow earlier (task ∷ tasks) =
    (kind_named (kind_text task.kind) (count_named (kind_text task.kind) earlier) ≡ task.kind) × KindsFollow (earlier ++ task ∷ []) tasks

abbrev pub IsTaskLine : Task → Type 0
IsTaskLine task = IsTaskName task.kind task.name × IsReadableTask task

abbrev with_tasks : TaskGraph → List Task → TaskGraph
with_tasks graph tasks = record { tasks = graph.tasks ++ tasks; edges = graph.edges; hyper = graph.hyper }

one_task : (t : Bool) (graph : TaskGraph) (task : Task) → t ≡ true → (if t then with_tasks graph (task ∷ []) else graph) ≡ with_tasks graph (task ∷ [])
one_task t graph task e = ap (λ b. if b then with_tasks graph (task ∷ []) else graph) e

tasks_read : (k : ℕ) (tasks : List Task) (text : List ℕ) (graph : TaskGraph) → Each IsTaskLine tasks → KindsFollow graph.tasks tasks →
    length graph.tasks + length tasks ≤ MAX_TASKS →
    with_lines graph (lines_in (numbered task_words k tasks ++ text)) ≡ with_lines (with_tasks graph tasks) (lines_in text)
tasks_read k [] text graph are follow few =
    ap (λ (l : List Task). with_lines (record { tasks = l; edges = graph.edges; hyper = graph.hyper }) (lines_in text)) (sym (append-nil graph.tasks))
tasks_read k (task ∷ tasks) text graph are follow few =
    let room : nat_le (length graph.tasks) MAX_TASKS ≡ true = grind (arith, nat_tests, few) in
    numbered_step graph task_words k task tasks text (printed_task k task are.0.0)
    ∙ ap (λ (t : Task). with_lines (if nat_le (length graph.tasks) MAX_TASKS then with_tasks graph (t ∷ []) else graph) (lines_in (numbered task_words (k + 1) tasks ++ text)))
    (task_back graph.tasks k task are.0.1 follow.0)
    ∙ ap (λ g. with_lines g (lines_in (numbered task_words (k + 1) tasks ++ text))) (one_task (nat_le (length graph.tasks) MAX_TASKS) graph task room)
    ∙ tasks_read (k + 1) tasks text (with_tasks graph (task ∷ [])) are.1 follow.1 (omega (arith, few, length-append graph.tasks (task ∷ [])))
    ∙ ap (λ (l : List Task). with_lines (record { tasks = l; edges = graph.edges; hyper = graph.hyper }) (lines_in text)) (append_assoc graph.tasks (task ∷ []) tasks)

-- edges

abbrev with_edges : TaskGraph → List Edge → TaskGraph
with_edges graph edges = record { tasks = graph.tasks; edges = graph.edges ++ edges; hyper = graph.hyper }

one_edge : (t : Bool) (graph : TaskGraph) (edge : Edge) → t ≡ true → (if t then with_edges graph (edge ∷ []) else graph) ≡ with_edges graph (edge ∷ [])
one_edge t graph edge e = ap (λ b. if b then with_edges graph (edge ∷ []) else graph) e

edges_read : (k : ℕ) (edges : List Edge) (text : List ℕ) (graph : TaskGraph) → Each IsReadableEdge edges →
    length graph.edges + length edges ≤ MAX_EDGES →
    with_lines graph (lines_in (numbered edge_words k edges ++ text)) ≡ with_lines (with_edges graph edges) (lines_in text)
edges_read k [] text graph are few =
    ap (λ (l : List Edge). with_lines (record { tasks = graph.tasks; edges = l; hyper = graph.hyper }) (lines_in text)) (sym (append-nil graph.edges))
edges_read k (edge ∷ edges) text graph are few =
    let room : nat_le (length graph.edges) MAX_EDGES ≡ true = grind (arith, nat_tests, few) in
    numbered_step graph edge_words k edge edges text (printed_edge k edge)
    ∙ ap (λ (e : Edge). with_lines (if nat_le (length graph.edges) MAX_EDGES then with_edges graph (e ∷ []) else graph) (lines_in (numbered edge_words (k + 1) edges ++ text)))
    (edge_back k edge are.0)
    ∙ ap (λ g. with_lines g (lines_in (numbered edge_words (k + 1) edges ++ text))) (one_edge (nat_le (length graph.edges) MAX_EDGES) graph edge room)
    ∙ edges_read (k + 1) edges text (with_edges graph (edge ∷ [])) are.1 (omega (arith, few, length-append graph.edges (edge ∷ [])))
    ∙ ap (λ (l : List Edge). with_lines (record { tasks = graph.tasks; edges = l; hyper = graph.hyper }) (lines_in text)) (append_assoc graph.edges (edge ∷ []) edges)

-- kinds are numbered in their order

plus_zero : (n : ℕ) → n + 0 ≡ n
plus_zero n = omega arith

count_more : (word : List ℕ) (earlier : List Task) (task : Task) →
    count_named word (earlier ++ task ∷ []) ≡ count_named word earlier + cond (bytes_eq (kind_text task.kind) word) 1 0
count_more word earlier task =
    sum_by-append (λ (t : Task). cond (bytes_eq (kind_text t.kind) word) 1 0) earlier (task ∷ [])
    ∙ ap (λ n. count_named word earlier + n) (sum_by-cons (λ (t : Task). cond (bytes_eq (kind_text t.kind) word) 1 0) task [] ∙ plus_zero (cond (bytes_eq (kind_text task.kind) word) 1 0))

record AreCounted (sensors nodes actuators : ℕ) (earlier : List Task) : Type 0 where
  pub sensors_are : count_named (codes "sensor") earlier ≡ sensors
  pub nodes_are : count_named (codes "node") earlier ≡ nodes
  pub actuators_are : count_named (codes "actuator") earlier ≡ actuators

kind_adds : (word : List ℕ) (earlier : List Task) (task : Task) (kind : Kind) → task.kind ≡ kind →
    count_named word (earlier ++ task ∷ []) ≡ count_named word earlier + cond (bytes_eq (kind_text kind) word) 1 0
kind_adds word earlier task kind is =
    count_more word earlier task ∙ ap (λ (k : Kind). count_named word earlier + cond (bytes_eq (kind_text k) word) 1 0) is

one_more : {a b c n : ℕ} → a ≡ b + c → c ≡ 1 → b ≡ n → a ≡ n + 1
one_more is one same = omega (arith, is, one, same)

none_more : {a b c n : ℕ} → a ≡ b + c → c ≡ 0 → b ≡ n → a ≡ n
none_more is none same = omega (arith, is, none, same)

named_as : (earlier : List Task) (task : Task) (kind : Kind) → task.kind ≡ kind →
    kind_named (kind_text kind) (count_named (kind_text kind) earlier) ≡ kind → kind_named (kind_text task.kind) (count_named (kind_text task.kind) earlier) ≡ task.kind
named_as earlier task kind is named = subst (λ (k : Kind). kind_named (kind_text k) (count_named (kind_text k) earlier) ≡ k) (sym is) named

-- what follows a task of this kind is right, where what follows any counts is
abbrev FollowsAny : List Task → Type 0
FollowsAny tasks =
    (sensors nodes actuators : ℕ) (earlier : List Task) → AreNumbered sensors nodes actuators (map (λ (t : Task). t.kind) tasks) →
    AreCounted sensors nodes actuators earlier → KindsFollow earlier tasks

follow_by : (sensors nodes actuators : ℕ) (earlier : List Task) (task : Task) (tasks : List Task) (kind : Kind) → task.kind ≡ kind →
    AreNumbered sensors nodes actuators (kind ∷ map (λ (t : Task). t.kind) tasks) → AreCounted sensors nodes actuators earlier → FollowsAny tasks →
    KindsFollow earlier (task ∷ tasks)
follow_by sensors nodes actuators earlier task tasks (kinds.Sensor k) is numbered_so counted any = (
  named_as earlier task (kinds.Sensor k) is (ap kinds.Sensor (counted.sensors_are ∙ sym numbered_so.0)),
  any (sensors + 1) nodes actuators (earlier ++ task ∷ []) numbered_so.3 (record {
    sensors_are = one_more (kind_adds (codes "sensor") earlier task (kinds.Sensor k) is) refl counted.sensors_are;
    nodes_are = none_more (kind_adds (codes "node") earlier task (kinds.Sensor k) is) refl counted.nodes_are;
    actuators_are = none_more (kind_adds (codes "actuator") earlier task (kinds.Sensor k) is) refl counted.actuators_are;
  }),
)
follow_by sensors nodes actuators earlier task tasks (kinds.Node k) is numbered_so counted any = (
  named_as earlier task (kinds.Node k) is (ap kinds.Node (counted.nodes_are ∙ sym numbered_so.0)),
  any sensors (nodes + 1) actuators (earlier ++ task ∷ []) numbered_so.2 (record {
    sensors_are = none_more (kind_adds (codes "sensor") earlier task (kinds.Node k) is) refl counted.sensors_are;
    nodes_are = one_more (kind_adds (codes "node") earlier task (kinds.Node k) is) refl counted.nodes_are;
    actuators_are = none_more (kind_adds (codes "actuator") earlier task (kinds.Node k) is) refl counted.actuators_are;
  }),
)
follow_by sensors nodes actuators earlier task tasks (kinds.Actuator k) is numbered_so counted any = (
  named_as earlier task (kinds.Actuator k) is (ap kinds.Actuator (counted.actuators_are ∙ sym numbered_so.0)),
  any sensors nodes (actuators + 1) (earlier ++ task ∷ []) numbered_so.1 (record {
    sensors_are = none_more (kind_adds (codes "sensor") earlier task (kinds.Actuator k) is) refl counted.sensors_are;
    nodes_are = none_more (kind_adds (codes "node") earlier task (kinds.Actuator k) is) refl counted.nodes_are;
    actuators_are = one_more (kind_adds (codes "actuator") earlier task (kinds.Actuator k) is) refl counted.actuators_are;
  }),
)

follow : (tasks : List Task) → FollowsAny tasks
follow [] = λ sensors nodes actuators earlier numbered_so counted. tt
follow (task ∷ tasks) = λ sensors nodes actuators earlier numbered_so counted.
    follow_by sensors nodes actuators earlier task tasks task.kind refl numbered_so counted (follow tasks)

-- the tasks of a well-formed graph

task_line_of : (hyper : ℕ) (task : Task) → IsTask hyper task → IsTaskLine task
task_line_of hyper task is =
    let period = is.period.1 in
    let start = is.start in
    let wcet = is.wcet.1 in
    let due = is.due.1 in
    (is.name, record { period = omega (arith, period); start = omega (arith, start); due = omega (arith, due, period); wcet = omega (arith, wcet) })

-- the edges of a well-formed graph

times_low : (times n : ℕ) → 1 ≤ times → n ≤ times * n
times_low zero n some = absurd (omega (arith, some))
times_low (suc times) n some = omega arith

divisor_low : (k n : ℕ) → Divides k n → 1 ≤ n → k ≤ n
divisor_low k n (zero, is) some = absurd (omega (arith, is, some))
divisor_low k n (suc times, is) some = let low = times_low (suc times) k (omega arith) in omega (arith, is, low)

producer_divides : (hyper : ℕ) (ops : List Op) (producer consumer : Clock) → TakeClock hyper ops producer consumer → Divides producer.period hyper
producer_divides hyper [] producer consumer takes = subst (λ (c : Clock). Divides c.period hyper) takes.2 takes.1
producer_divides hyper (op ∷ ops) producer consumer takes = producer_divides hyper ops producer takes.2.0 takes.2.2

ports_low : (task port bound : ℕ) (edges : List Edge) → PortsFollow task port edges → port + length edges ≤ bound → Each (λ (e : Edge). e.port ≤ bound) edges
ports_low task port bound [] follows few = tt
ports_low task port bound (edge ∷ edges) (inl next, follows) few =
    let n = next.1 in (omega (arith, n, few), ports_low edge.to.0 edge.port bound edges follows (omega (arith, n, few)))
ports_low task port bound (edge ∷ edges) (inr next, follows) few =
    let n = next.1 in (omega (arith, n, few), ports_low edge.to.0 edge.port bound edges follows (omega (arith, n, few)))

order_low : (edges : List Edge) → AreInOrder edges → Each (λ (e : Edge). e.port ≤ length edges) edges
order_low [] order = tt
order_low (edge ∷ edges) order =
    let n = order.0 in (omega (arith, n), ports_low edge.to.0 edge.port (length (edge ∷ edges)) edges order.1 (omega (arith, n)))

each_at : {A : Type 0} (P : A → Type 0) (items : List A) → Each P items → (k : ℕ) (item : A) → slice_get items k ≡ Some item → P item
each_at P [] all k item at = cc
each_at P (first ∷ items) all zero item at = subst P (some_same first item at) all.0
  where
    some_same : {A : Type 0} (x y : A) → Some x ≡ Some y → x ≡ y
    some_same x y e = cc
each_at P (first ∷ items) all (suc k) item at = each_at P items all.1 k item at

readable_operators : (ty : Ty) (ops : List Op) → ((k : ℕ) (op : Op) → slice_get ops k ≡ Some op → IsOperatorFor ty op × HasSmallShift op) → AreReadable ty ops
readable_operators ty [] all = tt
readable_operators ty (op ∷ ops) all = (all 0 op refl, readable_operators ty ops (λ k other at. all (suc k) other at))

readable_producer : (graph : TaskGraph) (edge : Edge) (clock : Clock) (from : Producer) → length graph.tasks ≤ MAX_TASKS → IsSource graph edge clock from →
    HasSmallOutput from → IsReadableProducer from
readable_producer graph edge clock (producers.Port task out) few source small = let inside = source.0 in (omega (arith, few, inside), small)
readable_producer graph edge clock (producers.Constant value) few source small = source.1

edge_line_of : (graph : TaskGraph) (edge : Edge) → length graph.tasks ≤ MAX_TASKS → 1 ≤ graph.hyper → graph.hyper ≤ MAX_HYPER → IsEdge graph edge →
    edge.port < 2 ^ 32 → HasSmallOutput edge.from → ((k : ℕ) (op : Op) → slice_get edge.ops k ≡ Some op → HasSmallShift op) → IsReadableEdge edge
edge_line_of graph edge few some short is port output shifts =
    let clock = is.clocks.0 in
    let same = is.clocks.1 in
    let low = divisor_low clock.period graph.hyper (producer_divides graph.hyper edge.ops clock _ is.clocks.3) some in
    let to = is.to in
    record {
      from = readable_producer graph edge clock edge.from few is.clocks.2 output;
      to = omega (arith, to, few);
      port = port;
      period = omega (arith, same, low, short);
      ops = readable_operators edge.ty edge.ops (λ k op at. (is.operators k op at, shifts k op at));
    }

edge_lines_of : (graph : TaskGraph) → IsWellFormed graph → IsRepresentable graph → Each IsReadableEdge graph.edges
edge_lines_of graph well held =
    each_of IsReadableEdge graph.edges (λ e edge at.
    let low = each_at (λ (other : Edge). other.port ≤ length graph.edges) graph.edges (order_low graph.edges well.order) e edge at in
    let few = well.few_edges in
    edge_line_of graph edge well.few_tasks well.hyper well.few_ticks (well.edges e edge at) (omega (arith, low, few)) (held.outputs e edge at)
    (λ k op within. held.shifts e k edge op at within))

-- the whole text

nested : (a b c d e f g : List ℕ) → a ++ b ++ c ++ d ++ e ++ f ++ g ≡ a ++ (b ++ (c ++ (d ++ (e ++ (f ++ (g ++ []))))))
nested a b c d e f g = simp (append_assoc, append-nil)

with_hyper : (hyper : ℕ) → hyper < 2 ^ 64 →
    with_words empty (codes "hyperperiod") (decimal hyper ∷ []) ≡ record { tasks = []; edges = []; hyper = hyper }
with_hyper hyper small = ap (λ (n : ℕ). (let g : TaskGraph = record { tasks = []; edges = []; hyper = n } in g)) (number_of_decimal hyper small)

pub text_tells_graph : (plan : PlanView) → IsPlan plan → IsRepresentable plan.graph → graph_of (plan_text plan) ≡ plan.graph
text_tells_graph plan is held =
    let graph = plan.graph in
    let well = is.graph in
    let short = well.few_ticks in
    let few_tasks = well.few_tasks in
    let few_edges = well.few_edges in
    let cells = numbered (cells_line_words plan) 0 graph.edges in
    let words = numbered word_words 0 plan.words in
    let edges = numbered edge_words 0 graph.edges in
    let dates = numbered dates_words 0 plan.windows in
    let tasks = numbered task_words 0 graph.tasks in
    let hyper = line (codes "hyperperiod" ∷ decimal graph.hyper ∷ []) in
    let with_h : TaskGraph = record { tasks = []; edges = []; hyper = graph.hyper } in
    let with_t : TaskGraph = record { tasks = graph.tasks; edges = []; hyper = graph.hyper } in
    ap graph_of (nested (line (codes "plan" ∷ codes "1" ∷ [])) hyper tasks dates edges words cells)
    ∙ line_step empty (codes "plan" ∷ codes "1" ∷ []) (hyper ++ (tasks ++ (dates ++ (edges ++ (words ++ (cells ++ [])))))) printed_head
    ∙ line_step empty (codes "hyperperiod" ∷ decimal graph.hyper ∷ []) (tasks ++ (dates ++ (edges ++ (words ++ (cells ++ []))))) (printed_hyper graph.hyper)
    ∙ ap (λ g. with_lines g (lines_in (tasks ++ (dates ++ (edges ++ (words ++ (cells ++ []))))))) (with_hyper graph.hyper (omega (arith, short)))
    ∙ tasks_read 0 graph.tasks (dates ++ (edges ++ (words ++ (cells ++ [])))) with_h
    (each_of IsTaskLine graph.tasks (λ i task at. task_line_of graph.hyper task (well.tasks i task at)))
    (follow graph.tasks 0 0 0 [] well.kinds (record { sensors_are = refl; nodes_are = refl; actuators_are = refl })) (omega (arith, few_tasks))
    ∙ skip_lines dates_words 0 plan.windows (edges ++ (words ++ (cells ++ []))) with_t (λ k windows. (printed_dates k windows, λ g. refl))
    ∙ edges_read 0 graph.edges (words ++ (cells ++ [])) with_t (edge_lines_of graph well held) (omega (arith, few_edges))
    ∙ skip_lines word_words 0 plan.words (cells ++ []) graph (λ k word. (printed_word k word, λ g. refl))
    ∙ skip_lines (cells_line_words plan) 0 graph.edges [] graph (λ k edge. skipped_cells k edge.from _ _)
