-- A flat program with clocks has one task graph at most, or one fault at most, and not both.
use Rattle.prl_base.proofs.Standard.{◌≡◌, ◌<◌, ◌≤◌, ◌+◌, ℕ, List, ◌∷◌, length, take, slice_get, Some, refl, sym, ◌∙◌, ap, subst, arith, ⊎_elim, cases_lt, le_of_dvd}
use Rattle.prl_base.specs.declared.limits.What.{What}
use Rattle.prl_base.specs.declared.numbers.FlowNo.{FlowNo}
use Rattle.prl_base.specs.declared.numbers.TaskNo.{TaskNo}
use Rattle.prl_base.specs.declared.operators.Clock.{Clock}
use Rattle.prl_base.specs.declared.operators.Op.{Op}
use Rattle.prl_base.specs.declared.limits.What.TheVariants as limits
use Rattle.prl_flow.specs.Vocabulary.{FlatProgram, clock_of}
use Rattle.prl_flow.specs.declared.programs.Def.{Def}
use Rattle.prl_flow.specs.declared.programs.Flow.{Flow}
use Rattle.prl_flow.specs.declared.programs.Def.TheVariants as definitions
use Rattle.prl_flow.proofs.Lists.{element_at, same_from_elements, slice_get_take}
use Rattle.prl_plan.specs.Graphs.{Divides}
use Rattle.prl_plan.specs.declared.graphs.Edge.{Edge}
use Rattle.prl_plan.specs.declared.graphs.Producer.{Producer}
use Rattle.prl_plan.specs.declared.graphs.Task.{Task}
use Rattle.prl_plan.specs.declared.graphs.TaskGraph.{TaskGraph}
use Rattle.prl_plan.specs.declared.limits.TheConstants.{MAX_HYPER}
use Rattle.prl_graph.specs.Vocabulary.{GraphFault, IsDueOnNonTask, IsDueOutOfRange, IsLeastDue, AreEdges, IsEdgeOf, IsProducer, LeadsBack, IsCommonMultiple, IsHyperperiod, IsPastHyperperiod}
use Rattle.prl_graph.specs.Vocabulary.{InputPort, ports_of, task_count, IsGraphFault, IsGraphOf, IsOfProgram, IsPassedLimit, IsPastJobs, jobs_within, told, AreTasks, IsTaskOf, application_clock}
use Rattle.prl_graph.specs.Vocabulary.{node_task, sensor, node, actuator}
use Rattle.prl_graph.specs.declared.faults.GraphFault.TheVariants as faults
use Rattle.prl_graph.specs.Edges as ways
use Rattle.prl_graph.proofs.Multiples.{take_get}
use Rattle.prl_numbers.proofs.LeastMultiples.{divides_both, to_dvd}
use Rattle.prl_graph.proofs.TaskFacts.{actuator_found, node_found, sensor_found}
use Rattle.prl_graph.proofs.Ways.{same_flow}

-- least dues are one
least_below : (p : FlatProgram) (k period d e : ℕ) → IsLeastDue p k period d → IsLeastDue p k period e → d ≤ e
least_below p k period d e one other =
    ⊎_elim (λ same. (let w = one.within in omega arith)) (λ (i, binds). one.least i e binds) other.attained

least_same : (p : FlatProgram) (k period d e : ℕ) → IsLeastDue p k period d → IsLeastDue p k period e → d ≡ e
least_same p k period d e one other =
    let a = least_below p k period d e one other in
    let b = least_below p k period e d other one in
    omega arith

-- tasks are one
task_same : (p : FlatProgram) (clocks : List Clock) (i : ℕ) (s t : Task) → IsTaskOf p clocks i s → IsTaskOf p clocks i t → s ≡ t
task_same p clocks i s t (sensor is) other = is.is ∙ sym (sensor_found p clocks i is.flow t is.found other)
task_same p clocks i s t (node is) other =
    let found = node_found p clocks is.number is.app t is.found (subst (λ n. IsTaskOf p clocks n t) is.at other) in
    is.is ∙ ap (λ d. node_task clocks is.number is.app d) (least_same p is.number (application_clock clocks is.app).period is.due found.0 is.least found.1) ∙ sym found.2
task_same p clocks i s t (actuator is) other =
    is.is ∙ sym (actuator_found p clocks is.number is.flow t is.found (subst (λ n. IsTaskOf p clocks n t) is.at other))

pub tasks_same : (p : FlatProgram) (clocks : List Clock) (a b : List Task) → AreTasks p clocks a → AreTasks p clocks b → a ≡ b
tasks_same p clocks a b one other =
    same_from_elements a b (one.count ∙ sym other.count) (λ i below.
    (let count_a = one.count in
    let s = element_at a i below in
    let t = element_at b i (omega arith) in
    s.1 ∙ ap Some (task_same p clocks i s.0 t.0 (one.each i s.0 s.1) (other.each i t.0 t.1)) ∙ sym t.1))

-- ways back to what is made of no other flow are one
no_copy : (p : FlatProgram) (d : Def) (of : FlowNo) (from : Producer) → IsProducer p d from → d ≡ definitions.Copy of → ⊥
no_copy p d of from produces is = subst (λ x. IsProducer p x from) is produces

no_operator : (p : FlatProgram) (d : Def) (op : Op) (of : FlowNo) (from : Producer) → IsProducer p d from → d ≡ definitions.Op op of → ⊥
no_operator p d op of from produces is = subst (λ x. IsProducer p x from) is produces

-- a way's operators and its end
abbrev End : Type 0
End = List Op × ℕ

-- the end of a way is made of no other flow
record IsEnd (p : FlatProgram) (j : ℕ) : Type 0 where
  flow : Flow
  found : slice_get p.flows j ≡ Some flow
  from : Producer
  produces : IsProducer p flow.def from

way_same : (p : FlatProgram) (i j l : ℕ) (ops others : List Op) → LeadsBack p i ops j → LeadsBack p i others l → IsEnd p j → IsEnd p l → (ops ≡ others) × (j ≡ l)
way_same p i j l ops others (ways.here k) (ways.here m) one other = (refl, refl)
way_same p i j l ops others (ways.here k) (ways.copy m n rest g by at def way) one other =
    absurd (no_copy p g.def by one.from (subst (λ (f : Flow). IsProducer p f.def one.from) (same_flow p k one.flow g one.found at) one.produces) def)
way_same p i j l ops others (ways.here k) (ways.operator m n rest g op by at def way) one other =
    absurd (no_operator p g.def op by one.from (subst (λ (f : Flow). IsProducer p f.def one.from) (same_flow p k one.flow g one.found at) one.produces) def)
way_same p i j l ops others (ways.copy k n rest g by at def way) (ways.here m) one other =
    absurd (no_copy p g.def by other.from (subst (λ (f : Flow). IsProducer p f.def other.from) (same_flow p k other.flow g other.found at) other.produces) def)
way_same p i j l ops others (ways.copy k n rest g by at def way) (ways.copy k' n' rest' h by' at' def' way') one other =
    let flows : g ≡ h = same_flow p k g h at at' in
    let of : by ≡ by' = cc in
    way_same p by.0 j l ops others way (subst (λ (f : FlowNo). LeadsBack p f.0 others l) (sym of) way') one other
way_same p i j l ops others (ways.copy k n rest g by at def way) (ways.operator k' n' rest' h op by' at' def' way') one other =
    let flows : g ≡ h = same_flow p k g h at at' in
    cc
way_same p i j l ops others (ways.operator k n rest g op by at def way) (ways.here m) one other =
    absurd (no_operator p g.def op by other.from (subst (λ (f : Flow). IsProducer p f.def other.from) (same_flow p k other.flow g other.found at) other.produces) def)
way_same p i j l ops others (ways.operator k n rest g op by at def way) (ways.copy k' n' rest' h by' at' def' way') one other =
    let flows : g ≡ h = same_flow p k g h at at' in
    cc
way_same p i j l ops others (ways.operator k n rest g op by at def way) (ways.operator k' n' rest' h op' by' at' def' way') one other =
    let flows : g ≡ h = same_flow p k g h at at' in
    let of : by ≡ by' = cc in
    let first : op ≡ op' = cc in
    let more = way_same p by.0 j l rest rest' way (subst (λ (f : FlowNo). LeadsBack p f.0 rest' l) (sym of) way') one other in
    (ap (λ o. o ∷ rest) first ∙ ap (λ r. op' ∷ r) more.0, more.1)

producer_same : (p : FlatProgram) (d : Def) (a b : Producer) → IsProducer p d a → IsProducer p d b → a ≡ b
producer_same p (definitions.Sensor k) a b one other = one ∙ sym other
producer_same p (definitions.Copy of) a b one other = absurd one
producer_same p (definitions.Const v) a b one other = one ∙ sym other
producer_same p (definitions.Apply app out) a b one other = one ∙ sym other
producer_same p (definitions.Op op of) a b one other = absurd one

edge_parts : (a b : Edge) → a.from ≡ b.from → a.to ≡ b.to → a.port ≡ b.port → a.ops ≡ b.ops → a.period ≡ b.period → a.ty ≡ b.ty → a ≡ b
edge_parts a b from to port ops period ty =
    ap (λ x. record { from = x; to = a.to; port = a.port; ops = a.ops; period = a.period; ty = a.ty }) from
    ∙ ap (λ x. record { from = b.from; to = x; port = a.port; ops = a.ops; period = a.period; ty = a.ty }) to
    ∙ ap (λ x. record { from = b.from; to = b.to; port = x; ops = a.ops; period = a.period; ty = a.ty }) port
    ∙ ap (λ x. record { from = b.from; to = b.to; port = b.port; ops = x; period = a.period; ty = a.ty }) ops
    ∙ ap (λ x. record { from = b.from; to = b.to; port = b.port; ops = b.ops; period = x; ty = a.ty }) period
    ∙ ap (λ x. record { from = b.from; to = b.to; port = b.port; ops = b.ops; period = b.period; ty = x }) ty

task_no : (a b : TaskNo) → a.0 ≡ b.0 → a ≡ b
task_no a b same = ap (λ n. record { 0 = n }) same

edge_same : (p : FlatProgram) (clocks : List Clock) (port : InputPort) (a b : Edge) → IsEdgeOf p clocks port a → IsEdgeOf p clocks port b → a ≡ b
edge_same p clocks port a b one other =
    let way = way_same p port.flow one.source other.source a.ops b.ops one.leads other.leads
    (record { flow = one.flow; found = one.found; from = a.from; produces = one.from }) (record { flow = other.flow; found = other.found; from = b.from; produces = other.from }) in
    let flows : one.flow ≡ other.flow = same_flow p other.source one.flow other.flow (subst (λ n. slice_get p.flows n ≡ Some one.flow) way.1 one.found) other.found in
    edge_parts a b
    (producer_same p other.flow.def a.from b.from (subst (λ (f : Flow). IsProducer p f.def a.from) flows one.from) other.from)
    (task_no a.to b.to (one.to ∙ sym other.to))
    (one.port_is ∙ sym other.port_is)
    way.0
    (one.period ∙ ap (λ n. (clock_of clocks n).period) way.1 ∙ sym other.period)
    (one.ty ∙ ap (λ (f : Flow). f.ty) flows ∙ sym other.ty)

edges_same : (p : FlatProgram) (clocks : List Clock) (a b : List Edge) → AreEdges p clocks a → AreEdges p clocks b → a ≡ b
edges_same p clocks a b one other =
    same_from_elements a b (one.count ∙ sym other.count) (λ e below.
    (let count_a = one.count in
    let s = element_at a e below in
    let t = element_at b e (omega arith) in
    let port = element_at (ports_of p) e (omega arith) in
    s.1 ∙ ap Some (edge_same p clocks port.0 s.0 t.0 (one.each e port.0 s.0 port.1 s.1) (other.each e port.0 t.0 port.1 t.1)) ∙ sym t.1))

hyper_same : (clocks : List Clock) (a b : ℕ) → IsHyperperiod clocks a → IsHyperperiod clocks b → a ≡ b
hyper_same clocks a b one other = divides_both a b (one.least b other.multiple) (other.least a one.multiple)

graph_parts : (a b : TaskGraph) → a.tasks ≡ b.tasks → a.edges ≡ b.edges → a.hyper ≡ b.hyper → a ≡ b
graph_parts a b tasks edges hyper =
    ap (λ x. record { tasks = x; edges = a.edges; hyper = a.hyper }) tasks
    ∙ ap (λ x. record { tasks = b.tasks; edges = x; hyper = a.hyper }) edges
    ∙ ap (λ x. record { tasks = b.tasks; edges = b.edges; hyper = x }) hyper

pub one_graph : (p : FlatProgram) (clocks : List Clock) (a b : TaskGraph) → IsGraphOf p clocks a → IsGraphOf p clocks b → a ≡ b
one_graph p clocks a b one other =
    graph_parts a b (tasks_same p clocks a.tasks b.tasks one.tasks other.tasks) (edges_same p clocks a.edges b.edges one.edges other.edges) (hyper_same clocks a.hyper b.hyper one.hyper other.hyper)

-- a running least common multiple is at most a later one
multiple_of_first : (clocks : List Clock) (n m : ℕ) → IsCommonMultiple clocks m → IsCommonMultiple (take n clocks) m
multiple_of_first clocks n m common i clock h = common i clock (take_get n clocks i clock h).1

divides_le : (a b : ℕ) → 1 ≤ b → Divides a b → a ≤ b
divides_le a b some divides = le_of_dvd some (to_dvd a b divides)

past_is_more : (clocks : List Clock) (hyper found : ℕ) → IsHyperperiod clocks hyper → IsPastHyperperiod clocks found → found ≤ hyper
past_is_more clocks hyper found is past =
    divides_le found hyper is.positive (past.found_is.least hyper (multiple_of_first clocks (past.index + 1) hyper is.multiple))

-- the first of two that are past is not past a later one's limit
first_earlier : (clocks : List Clock) (a b : ℕ) → (one : IsPastHyperperiod clocks a) → (other : IsPastHyperperiod clocks b) → one.index < other.index → ⊥
first_earlier clocks a b one other earlier =
    let common : IsCommonMultiple (take (one.index + 1) clocks) other.before = λ i clock h.
    (let at = take_get (one.index + 1) clocks i clock h in
    let low = at.0 in
    let e : i < other.index = omega arith in
    other.before_is.multiple i clock (slice_get_take other.index clocks i e ∙ at.1)) in
    let le = divides_le a other.before other.before_is.positive (one.found_is.least other.before common) in
    let past = one.past in
    let within = other.within in
    omega arith

past_same : (clocks : List Clock) (a b : ℕ) → IsPastHyperperiod clocks a → IsPastHyperperiod clocks b → a ≡ b
past_same clocks a b one other =
    ⊎_elim
    (λ less. absurd (first_earlier clocks a b one other less))
    (λ not_less. ⊎_elim
    (λ more. absurd (first_earlier clocks b a other one more))
    (λ not_more.
    (let same : one.index ≡ other.index = omega arith in
    hyper_same (take (other.index + 1) clocks) a b (subst (λ n. IsHyperperiod (take (n + 1) clocks) a) same one.found_is) other.found_is))
    (cases_lt other.index one.index))
    (cases_lt one.index other.index)

jobs_same : (p : FlatProgram) (clocks : List Clock) (a b : ℕ) → IsPastJobs p clocks a → IsPastJobs p clocks b → a ≡ b
jobs_same p clocks a b one other =
    one.found_is ∙ ap (λ h. jobs_within h one.tasks) (hyper_same clocks one.hyper other.hyper one.hyper_is other.hyper_is)
    ∙ ap (jobs_within other.hyper) (tasks_same p clocks one.tasks other.tasks one.tasks_are other.tasks_are) ∙ sym other.found_is

-- a passed limit leaves no graph
no_limit : (p : FlatProgram) (clocks : List Clock) (g : TaskGraph) (what : What) (found : ℕ) → IsGraphOf p clocks g → IsPassedLimit p clocks what found → ⊥
no_limit p clocks g limits.Tasks found of passed = (let few = of.few_tasks in let more = passed.0 in omega arith)
no_limit p clocks g limits.Edges found of passed = (let few = of.few_edges in let more = passed.1 in omega arith)
no_limit p clocks g limits.Hyperperiod found of passed =
    let le = past_is_more clocks g.hyper found of.hyper passed.2 in
    let few = of.few_ticks in
    let past = passed.2.past in
    omega arith
no_limit p clocks g limits.PeriodJobs found of passed =
    let jobs = passed.2 in
    let same : found ≡ jobs_within g.hyper g.tasks =
    jobs.found_is ∙ ap (λ h. jobs_within h jobs.tasks) (hyper_same clocks jobs.hyper g.hyper jobs.hyper_is of.hyper) ∙ ap (jobs_within g.hyper) (tasks_same p clocks jobs.tasks g.tasks jobs.tasks_are of.tasks) in
    let few = of.few_jobs in
    let past = jobs.past in
    omega arith
no_limit p clocks g limits.Name found of passed = absurd passed
no_limit p clocks g limits.Depth found of passed = absurd passed
no_limit p clocks g limits.Nodes found of passed = absurd passed
no_limit p clocks g limits.Flows found of passed = absurd passed
no_limit p clocks g limits.Clock found of passed = absurd passed
no_limit p clocks g limits.Prefix found of passed = absurd passed
no_limit p clocks g limits.Cells found of passed = absurd passed
no_limit p clocks g limits.Jobs found of passed = absurd passed
no_limit p clocks g limits.Events found of passed = absurd passed
no_limit p clocks g limits.Values found of passed = absurd passed

pub not_both : (p : FlatProgram) (clocks : List Clock) (g : TaskGraph) (fault : GraphFault) → IsOfProgram fault → IsGraphOf p clocks g → IsGraphFault p clocks fault → ⊥
not_both p clocks g (faults.DueOnNonTask label) told of is = is.refused (of.dues.allowed is.index is.due is.notes)
not_both p clocks g (faults.DueRange flow due period) told of is = is.1.refused (of.dues.within is.1.index due is.1.notes)
not_both p clocks g (faults.Limit limit) told of is = no_limit p clocks g limit.what limit.found of is.1
not_both p clocks g faults.Memory told of is = absurd told

-- which limit is passed
data Which (p : FlatProgram) (clocks : List Clock) (what : What) (found : ℕ) : Type 0 where
  of_tasks : what ≡ limits.Tasks → 64 < task_count p → found ≡ told (task_count p) → Which p clocks what found
  of_edges : what ≡ limits.Edges → task_count p ≤ 64 → 512 < length (ports_of p) → found ≡ told (length (ports_of p)) → Which p clocks what found
  of_hyper : what ≡ limits.Hyperperiod → task_count p ≤ 64 → length (ports_of p) ≤ 512 → IsPastHyperperiod clocks found → Which p clocks what found
  of_jobs : what ≡ limits.PeriodJobs → task_count p ≤ 64 → length (ports_of p) ≤ 512 → IsPastJobs p clocks found → Which p clocks what found

which : (p : FlatProgram) (clocks : List Clock) (what : What) (found : ℕ) → IsPassedLimit p clocks what found → Which p clocks what found
which p clocks limits.Tasks found passed = of_tasks refl passed.0 passed.1
which p clocks limits.Edges found passed = of_edges refl passed.0 passed.1 passed.2
which p clocks limits.Hyperperiod found passed = of_hyper refl passed.0 passed.1 passed.2
which p clocks limits.PeriodJobs found passed = of_jobs refl passed.0 passed.1 passed.2
which p clocks limits.Name found passed = absurd passed
which p clocks limits.Depth found passed = absurd passed
which p clocks limits.Nodes found passed = absurd passed
which p clocks limits.Flows found passed = absurd passed
which p clocks limits.Clock found passed = absurd passed
which p clocks limits.Prefix found passed = absurd passed
which p clocks limits.Cells found passed = absurd passed
which p clocks limits.Jobs found passed = absurd passed
which p clocks limits.Events found passed = absurd passed
which p clocks limits.Values found passed = absurd passed

-- a hyperperiod within the limit is not past it
within_or_past : (clocks : List Clock) (hyper found : ℕ) → IsHyperperiod clocks hyper → hyper ≤ MAX_HYPER → IsPastHyperperiod clocks found → ⊥
within_or_past clocks hyper found is few past = (let le = past_is_more clocks hyper found is past in let more = past.past in omega arith)

limit_same : (p : FlatProgram) (clocks : List Clock) (v w : What) (a b : ℕ) → Which p clocks v a → Which p clocks w b → (v ≡ w) × (a ≡ b)
limit_same p clocks v w a b (of_tasks v_is more found) (of_tasks w_is more' found') = (v_is ∙ sym w_is, found ∙ sym found')
limit_same p clocks v w a b (of_tasks v_is more found) (of_edges w_is few more' found') = absurd (omega arith)
limit_same p clocks v w a b (of_tasks v_is more found) (of_hyper w_is few few' past) = absurd (omega arith)
limit_same p clocks v w a b (of_tasks v_is more found) (of_jobs w_is few few' past) = absurd (omega arith)
limit_same p clocks v w a b (of_edges v_is few more found) (of_tasks w_is more' found') = absurd (omega arith)
limit_same p clocks v w a b (of_edges v_is few more found) (of_edges w_is few' more' found') = (v_is ∙ sym w_is, found ∙ sym found')
limit_same p clocks v w a b (of_edges v_is few more found) (of_hyper w_is few' few'' past) = absurd (omega arith)
limit_same p clocks v w a b (of_edges v_is few more found) (of_jobs w_is few' few'' past) = absurd (omega arith)
limit_same p clocks v w a b (of_hyper v_is few few' past) (of_tasks w_is more found) = absurd (omega arith)
limit_same p clocks v w a b (of_hyper v_is few few' past) (of_edges w_is few'' more found) = absurd (omega arith)
limit_same p clocks v w a b (of_hyper v_is few few' past) (of_hyper w_is few'' few''' past') = (v_is ∙ sym w_is, past_same clocks a b past past')
limit_same p clocks v w a b (of_hyper v_is few few' past) (of_jobs w_is few'' few''' jobs) = absurd (within_or_past clocks jobs.hyper a jobs.hyper_is jobs.few_ticks past)
limit_same p clocks v w a b (of_jobs v_is few few' jobs) (of_tasks w_is more found) = absurd (omega arith)
limit_same p clocks v w a b (of_jobs v_is few few' jobs) (of_edges w_is few'' more found) = absurd (omega arith)
limit_same p clocks v w a b (of_jobs v_is few few' jobs) (of_hyper w_is few'' few''' past) = absurd (within_or_past clocks jobs.hyper b jobs.hyper_is jobs.few_ticks past)
limit_same p clocks v w a b (of_jobs v_is few few' jobs) (of_jobs w_is few'' few''' jobs') = (v_is ∙ sym w_is, jobs_same p clocks a b jobs jobs')

-- of two lowest flows neither is lower
one_lowest : (i j : ℕ) → (i < j → ⊥) → (j < i → ⊥) → i ≡ j
one_lowest i j not_less not_more =
    ⊎_elim (λ less. absurd (not_less less)) (λ le. ⊎_elim (λ more. absurd (not_more more)) (λ ge. (let e : i ≡ j = omega arith in e)) (cases_lt j i)) (cases_lt i j)

non_task_same : (p : FlatProgram) (a b : List ℕ) → IsDueOnNonTask p a → IsDueOnNonTask p b → a ≡ b
non_task_same p a b one other =
    let same : one.index ≡ other.index = one_lowest one.index other.index (λ less. one.refused (other.lowest one.index one.due less one.notes)) (λ more. other.refused (one.lowest other.index other.due more other.notes)) in
    let flows : one.notes.flow ≡ other.notes.flow = same_flow p other.index one.notes.flow other.notes.flow (subst (λ n. slice_get p.flows n ≡ Some one.notes.flow) same one.notes.found) other.notes.found in
    sym one.named ∙ ap (λ (f : Flow). f.label) flows ∙ other.named

range_same : (p : FlatProgram) (clocks : List Clock) (a b : List ℕ) (d e t u : ℕ) → IsDueOutOfRange p clocks a d t → IsDueOutOfRange p clocks b e u → (a ≡ b) × (d ≡ e) × (t ≡ u)
range_same p clocks a b d e t u one other =
    let same : one.index ≡ other.index = one_lowest one.index other.index (λ less. one.refused (other.lowest one.index d less one.notes)) (λ more. other.refused (one.lowest other.index e more other.notes)) in
    let flows : one.notes.flow ≡ other.notes.flow = same_flow p other.index one.notes.flow other.notes.flow (subst (λ n. slice_get p.flows n ≡ Some one.notes.flow) same one.notes.found) other.notes.found in
    let dues : Some d ≡ Some e = sym one.notes.noted ∙ ap (λ (f : Flow). f.due) flows ∙ other.notes.noted in (
      sym one.named ∙ ap (λ (f : Flow). f.label) flows ∙ other.named,
      (let is : d ≡ e = cc in is),
      sym one.period_is ∙ ap (λ n. (clock_of clocks n).period) same ∙ other.period_is,
    )

pub one_fault : (p : FlatProgram) (clocks : List Clock) (a b : GraphFault) → IsOfProgram a → IsOfProgram b → IsGraphFault p clocks a → IsGraphFault p clocks b → a ≡ b
one_fault p clocks (faults.DueOnNonTask a) (faults.DueOnNonTask b) told_a told_b one other = ap (λ l. faults.DueOnNonTask l) (non_task_same p a b one other)
one_fault p clocks (faults.DueOnNonTask a) (faults.DueRange b e u) told_a told_b one other = absurd (one.refused (other.0 one.index one.due one.notes))
one_fault p clocks (faults.DueOnNonTask a) (faults.Limit m) told_a told_b one other = absurd (one.refused (other.0.allowed one.index one.due one.notes))
one_fault p clocks (faults.DueRange a d t) (faults.DueOnNonTask b) told_a told_b one other = absurd (other.refused (one.0 other.index other.due other.notes))
one_fault p clocks (faults.DueRange a d t) (faults.DueRange b e u) told_a told_b one other =
    let same = range_same p clocks a b d e t u one.1 other.1 in
    ap (λ l. faults.DueRange l d t) same.0 ∙ ap (λ n. faults.DueRange b n t) same.1 ∙ ap (λ n. faults.DueRange b e n) same.2
one_fault p clocks (faults.DueRange a d t) (faults.Limit m) told_a told_b one other = absurd (one.1.refused (other.0.within one.1.index d one.1.notes))
one_fault p clocks (faults.Limit l) (faults.DueOnNonTask b) told_a told_b one other = absurd (other.refused (one.0.allowed other.index other.due other.notes))
one_fault p clocks (faults.Limit l) (faults.DueRange b e u) told_a told_b one other = absurd (other.1.refused (one.0.within other.1.index e other.1.notes))
one_fault p clocks (faults.Limit l) (faults.Limit m) told_a told_b one other =
    let same = limit_same p clocks l.what m.what l.found m.found (which p clocks l.what l.found one.1) (which p clocks m.what m.found other.1) in
    ap (λ w. faults.Limit (record { what = w; found = l.found })) same.0 ∙ ap (λ n. faults.Limit (record { what = m.what; found = n })) same.1
one_fault p clocks faults.Memory b told_a told_b one other = absurd told_a
one_fault p clocks (faults.DueOnNonTask a) faults.Memory told_a told_b one other = absurd told_b
one_fault p clocks (faults.DueRange a d t) faults.Memory told_a told_b one other = absurd told_b
one_fault p clocks (faults.Limit l) faults.Memory told_a told_b one other = absurd told_b
