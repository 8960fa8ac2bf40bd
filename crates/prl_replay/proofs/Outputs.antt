-- What the jobs of an actuator read is the flow of its output, and the actuators' flows are those of main's outputs.
use Rattle.prl_base.proofs.Standard.{◌≡◌, ◌+◌, ◌-◌, ◌<◌, ◌≤◌, ◌++◌, ℕ, zero, suc, List, [], ◌∷◌, length, take, Some, slice_get, refl, sym, ◌∙◌, ap, subst, arith, AllByRecursion, ints, length-take-le}
use Rattle.prl_base.proofs.Standard.{take_all, recursion_from_All, get_or_from_slice_get, slice_get_within, take-suc}
use Rattle.prl_base.specs.Clocks.{IsClock, date_at}
use Rattle.prl_base.specs.declared.numbers.FlowNo.{FlowNo}
use Rattle.prl_base.specs.declared.operators.Clock.{Clock}
use Rattle.prl_base.specs.declared.values.Value.{Value}
use Rattle.prl_flow.specs.Vocabulary.{AreUpTo, IsUpTo, Device, FlatProgram, IsFlat, AreClocks, Solves, clock_of, values_of}
use Rattle.prl_flow.specs.declared.programs.OutFlow.{OutFlow}
use Rattle.prl_flow.proofs.ClockDates.{length_from_IsUpTo, value_at_date}
use Rattle.prl_flow.proofs.Lists.{element_at, same_from_elements}
use Rattle.prl_plan.specs.Vocabulary.{task_at, no_task, IsHorizonJob, edge_at, no_edge}
use Rattle.prl_plan.specs.declared.graphs.Edge.{Edge}
use Rattle.prl_plan.specs.declared.graphs.Kind.{Kind}
use Rattle.prl_plan.specs.declared.graphs.Task.{Task}
use Rattle.prl_plan.specs.declared.graphs.Kind.TheVariants as kinds
use Rattle.prl_values.specs.JobValues.{value_on}
use Rattle.prl_graph.specs.Vocabulary.{value_on_date, no_flow, values_on_dates, InputPort, actuator_no, actuator_ports, application_ports, node_no, ports_of, IsGraphOf, IsActuatorTask, IsTaskOf}
use Rattle.prl_graph.specs.Vocabulary.{sensor, node, actuator}
use Rattle.prl_core.specs.Cores.{CoreView, values_of as job_values_of}
use Rattle.prl_replay.specs.Vocabulary.{IsFlowOf, AddsFlow, AreFlowsBelow, out_flow, out_flows}

-- an element of the second of two lists
second_at : {A : Type 0} (xs ys : List A) (k : ℕ) → slice_get (xs ++ ys) (length xs + k) ≡ slice_get ys k
second_at [] ys k =
    let same : 0 + k ≡ k = omega arith in
    ap (slice_get ys) same
second_at (x ∷ xs) ys k =
    let next : length (x ∷ xs) + k ≡ suc (length xs + k) = omega arith in
    ap (slice_get (x ∷ xs ++ ys)) next ∙ second_at xs ys k

-- each actuator has its port
actuator_at : (i : ℕ) (flows : List FlowNo) (k : ℕ) (flow : FlowNo) → slice_get flows k ≡ Some flow
    → slice_get (actuator_ports i flows) k ≡ Some (record { task = i + k; port = 0; flow = flow.0 })
actuator_at i [] k flow h = cc
actuator_at i (f ∷ flows) zero flow h =
    let e : i ≡ i + 0 = omega arith in
    let same : f ≡ flow = cc in
    ap (λ n. Some (record { task = n; port = 0; flow = f.0 })) e ∙ ap (λ (g : FlowNo). Some (record { task = i + 0; port = 0; flow = g.0 })) same
actuator_at i (f ∷ flows) (suc k) flow h =
    let same : (i + 1) + k ≡ i + suc k = omega arith in
    actuator_at (i + 1) flows k flow h ∙ ap (λ n. Some (record { task = n; port = 0; flow = flow.0 })) same

-- a task that is an actuator's, by its kind, and one that is none
of_actuator : (p : FlatProgram) (clocks : List Clock) (i k : ℕ) (task : Task) → IsTaskOf p clocks i task → task.kind ≡ kinds.Actuator k → IsActuatorTask p clocks i task
of_actuator p clocks i k task (sensor is) kind = absurd (let e = is.is in cc)
of_actuator p clocks i k task (node is) kind = absurd (let e = is.is in cc)
of_actuator p clocks i k task (actuator is) kind = is

of_sensor : (p : FlatProgram) (clocks : List Clock) (i k : ℕ) (task : Task) → IsTaskOf p clocks i task → task.kind ≡ kinds.Sensor k → i < actuator_no p 0
of_sensor p clocks i k task (sensor is) kind = let below = slice_get_within p.ins i is.flow is.found in omega (arith, below)
of_sensor p clocks i k task (node is) kind = absurd (let e = is.is in cc)
of_sensor p clocks i k task (actuator is) kind = absurd (let e = is.is in cc)

of_node : (p : FlatProgram) (clocks : List Clock) (i k : ℕ) (task : Task) → IsTaskOf p clocks i task → task.kind ≡ kinds.Node k → i < actuator_no p 0
of_node p clocks i k task (sensor is) kind = absurd (let e = is.is in cc)
of_node p clocks i k task (node is) kind =
    let below = slice_get_within p.apps is.number is.app is.found in
    let at = is.at in omega (arith, below, at)
of_node p clocks i k task (actuator is) kind = absurd (let e = is.is in cc)

-- what holds of all elements of a list and of one more
all_but_last : {A : Type 0} (P : A → Type 0) (xs : List A) (y : A) → AllByRecursion P (xs ++ y ∷ []) → AllByRecursion P xs × P y
all_but_last P [] y h = (tt, h.0)
all_but_last P (x ∷ xs) y h = let rest = all_but_last P xs y h.1 in ((h.0, rest.0), rest.1)

-- the flows of outputs and of one more
one_more : (devices : List Device) (clocks : List Clock) (flows : List (List Value)) (k : ℕ) (xs : List FlowNo) (x : FlowNo)
    → out_flows devices clocks flows k (xs ++ x ∷ []) ≡ out_flows devices clocks flows k xs ++ out_flow devices clocks flows (k + length xs) x ∷ []
one_more devices clocks flows k [] x =
    let same : k ≡ k + 0 = omega arith in
    ap (λ n. out_flow devices clocks flows n x ∷ []) same
one_more devices clocks flows k (y ∷ xs) x =
    let same : (k + 1) + length xs ≡ k + length (y ∷ xs) = omega arith in
    ap (λ l. out_flow devices clocks flows k y ∷ l) (one_more devices clocks flows (k + 1) xs x)
    ∙ ap (λ n. out_flow devices clocks flows k y ∷ out_flows devices clocks flows (k + 1) xs ++ out_flow devices clocks flows n x ∷ []) same

abbrev UpTo : ℕ → OutFlow → Type 0
UpTo until out = IsClock out.clock × IsUpTo until out.clock out.values

module _ (p : FlatProgram) (clocks : List Clock) (flows : List (List Value)) (core : CoreView) (flat : IsFlat p) (of : AreClocks p clocks)
    (solves : Solves p clocks core.bodies core.rows core.horizon.until flows) (is_graph : IsGraphOf p clocks core.plan.graph)
    (one : (e n : ℕ) → e < length core.plan.graph.edges → IsHorizonJob core.plan.graph core.horizon.until (edge_at core.plan.graph e).to.0 n
    → value_on (job_values_of core) (edge_at core.plan.graph e) n ≡ value_on (values_on_dates p clocks flows core.plan.graph) (edge_at core.plan.graph e) n)
    (operands : (e : ℕ) (port : InputPort) (edge : Edge) → slice_get (ports_of p) e ≡ Some port → slice_get core.plan.graph.edges e ≡ Some edge
    → (n : ℕ) → date_at (clock_of clocks port.flow) n < core.horizon.until
    → value_on (values_on_dates p clocks flows core.plan.graph) edge n ≡ value_on_date clocks flows port.flow n) where
  task_is : (i : ℕ) → i < length core.plan.graph.tasks → IsTaskOf p clocks i (task_at core.plan.graph i)
  task_is i inside =
      let at = element_at core.plan.graph.tasks i inside in
      subst (IsTaskOf p clocks i) (sym (get_or_from_slice_get core.plan.graph.tasks i at.0 no_task at.1)) (is_graph.tasks.each i at.0 at.1)

  -- the port of an actuator stands after those of the applications
  port_at : (k : ℕ) (flow : FlowNo) → slice_get p.outs k ≡ Some flow
      → slice_get (ports_of p) (length (application_ports (node_no p 0) p.apps) + k) ≡ Some (record { task = actuator_no p 0 + k; port = 0; flow = flow.0 })
  port_at k flow found =
      second_at (application_ports (node_no p 0) p.apps) (actuator_ports (actuator_no p 0) p.outs) k ∙ actuator_at (actuator_no p 0) p.outs k flow found

  module _ (i : ℕ) (inside : i < length core.plan.graph.tasks) (out : OutFlow) (is : IsFlowOf core i out) (up_to : UpTo core.horizon.until out)
      (task : IsActuatorTask p clocks i (task_at core.plan.graph i)) where
    clock_is : out.clock ≡ clock_of clocks task.flow.0
    clock_is = is.clock ∙ ap (λ (t : Task). t.clock) task.is

    is_clock : IsClock (clock_of clocks task.flow.0)
    is_clock = subst IsClock clock_is up_to.0

    flow_up_to : IsUpTo core.horizon.until (clock_of clocks task.flow.0) (values_of flows task.flow.0)
    flow_up_to =
        let below = flat.outs task.number task.flow task.found in
        let count = solves.count in
        solves.up_to task.flow.0 (omega (arith, below, count))

    as_many : length out.values ≡ length (values_of flows task.flow.0)
    as_many =
        length_from_IsUpTo core.horizon.until (clock_of clocks task.flow.0) out.values is_clock
        (subst (λ (c : Clock). IsUpTo core.horizon.until c out.values) clock_is up_to.1)
        ∙ sym (length_from_IsUpTo core.horizon.until (clock_of clocks task.flow.0) (values_of flows task.flow.0) is_clock flow_up_to)

    abbrev number : ℕ
    number = length (application_ports (node_no p 0) p.apps) + task.number

    abbrev port : InputPort
    port = record { task = actuator_no p 0 + task.number; port = 0; flow = task.flow.0 }

    found_port : slice_get (ports_of p) number ≡ Some port
    found_port = port_at task.number task.flow task.found

    within : number < length core.plan.graph.edges
    within =
        let below = slice_get_within (ports_of p) number port found_port in
        let count = is_graph.edges.count in
        omega (arith, below, count)

    found_edge : (edge : Edge) × (slice_get core.plan.graph.edges number ≡ Some edge)
    found_edge = element_at core.plan.graph.edges number within

    edge_is : edge_at core.plan.graph number ≡ found_edge.0
    edge_is = get_or_from_slice_get core.plan.graph.edges number found_edge.0 no_edge found_edge.1

    into : (edge_at core.plan.graph number).to.0 ≡ i
    into =
        let same : actuator_no p 0 + task.number ≡ actuator_no p task.number = omega arith in
        ap (λ (e : Edge). e.to.0) edge_is ∙ (is_graph.edges.each number port found_edge.0 found_port found_edge.1).to ∙ same ∙ sym task.at

    job : (n : ℕ) → date_at out.clock n < core.horizon.until → IsHorizonJob core.plan.graph core.horizon.until i n
    job n early =
        let at : date_at (task_at core.plan.graph i).clock n < core.horizon.until = subst (λ (c : Clock). date_at c n < core.horizon.until) is.clock early in
        record { task = inside; early = omega (arith, ints, at) }

    -- what its n-th job read is the value of the flow at its n-th date
    value_is : (n : ℕ) → n < length out.values → slice_get out.values n ≡ slice_get (values_of flows task.flow.0) n
    value_is n below =
        let early = (up_to.1 n).0 below in
        let ended = is.values.ended in
        let date : date_at (clock_of clocks task.flow.0) n < core.horizon.until = subst (λ (c : Clock). date_at c n < core.horizon.until) clock_is early in
        is.values.each number n within into (omega (arith, below, ended))
        ∙ one number n within (subst (λ (k : ℕ). IsHorizonJob core.plan.graph core.horizon.until k n) (sym into) (job n early))
        ∙ ap (λ (e : Edge). value_on (values_on_dates p clocks flows core.plan.graph) e n) edge_is
        ∙ operands number port found_edge.0 found_port found_edge.1 n date
        ∙ value_at_date (clock_of clocks task.flow.0) (values_of flows task.flow.0) n is_clock

    pub flow_is : out ≡ out_flow p.out_devices clocks flows task.number task.flow
    flow_is =
        let name = is.name ∙ ap (λ (t : Task). t.name) task.is in
        let values = same_from_elements out.values (values_of flows task.flow.0) as_many value_is in
        ap (λ (n : List ℕ). record { name = n; clock = out.clock; values = out.values }) name
        ∙ ap (λ (c : Clock). record { name = (out_flow p.out_devices clocks flows task.number task.flow).name; clock = c; values = out.values }) clock_is
        ∙ ap (λ (vs : List Value). record { name = (out_flow p.out_devices clocks flows task.number task.flow).name; clock = clock_of clocks task.flow.0; values = vs }) values

  abbrev below_are : ℕ → List OutFlow
  below_are n = out_flows p.out_devices clocks flows 0 (take (n - actuator_no p 0) p.outs)

  unchanged : (n : ℕ) → n < actuator_no p 0 → below_are n ≡ below_are (suc n)
  unchanged n early =
      let same : n - actuator_no p 0 ≡ suc n - actuator_no p 0 = omega (arith, early) in
      ap (λ (m : ℕ). out_flows p.out_devices clocks flows 0 (take m p.outs)) same

  extended : (n : ℕ) (task : IsActuatorTask p clocks n (task_at core.plan.graph n)) → below_are n ++ out_flow p.out_devices clocks flows task.number task.flow ∷ [] ≡ below_are (suc n)
  extended n task =
      let at = task.at in
      let below = slice_get_within p.outs task.number task.flow task.found in
      let here : n - actuator_no p 0 ≡ task.number = omega (arith, at) in
      let next : suc task.number ≡ suc n - actuator_no p 0 = omega (arith, at) in
      let count : length (take task.number p.outs) ≡ task.number = length-take-le task.number p.outs (omega (arith, below)) in
      let number : task.number ≡ 0 + length (take task.number p.outs) = omega (arith, count) in
      let front = take task.number p.outs in
      ap (λ (m : ℕ). out_flows p.out_devices clocks flows 0 (take m p.outs) ++ out_flow p.out_devices clocks flows task.number task.flow ∷ []) here
      ∙ ap (λ (m : ℕ). out_flows p.out_devices clocks flows 0 front ++ out_flow p.out_devices clocks flows m task.flow ∷ []) number
      ∙ sym (one_more p.out_devices clocks flows 0 front task.flow)
      ∙ ap (λ (f : FlowNo). out_flows p.out_devices clocks flows 0 (front ++ f ∷ [])) (sym (get_or_from_slice_get p.outs task.number task.flow no_flow task.found))
      ∙ ap (λ (l : List FlowNo). out_flows p.out_devices clocks flows 0 l) (sym (take-suc p.outs task.number no_flow below))
      ∙ ap (λ (m : ℕ). out_flows p.out_devices clocks flows 0 (take m p.outs)) next

  -- the flows below a task, and with that of the task
  step : (n : ℕ) → n < length core.plan.graph.tasks
      → ((before : List OutFlow) → AreFlowsBelow core n before → AllByRecursion (UpTo core.horizon.until) before → before ≡ below_are n)
      → (kind : Kind) → (task_at core.plan.graph n).kind ≡ kind → (before outs : List OutFlow)
      → AreFlowsBelow core n before → AddsFlow core n kind before outs → AllByRecursion (UpTo core.horizon.until) outs → outs ≡ below_are (suc n)
  step n inside below (kinds.Sensor k) kind before outs are adds all =
      adds ∙ below before are (subst (AllByRecursion (UpTo core.horizon.until)) adds all)
      ∙ unchanged n (of_sensor p clocks n k (task_at core.plan.graph n) (task_is n inside) kind)
  step n inside below (kinds.Node k) kind before outs are adds all =
      adds ∙ below before are (subst (AllByRecursion (UpTo core.horizon.until)) adds all)
      ∙ unchanged n (of_node p clocks n k (task_at core.plan.graph n) (task_is n inside) kind)
  step n inside below (kinds.Actuator k) kind before outs are adds all =
      let task = of_actuator p clocks n k (task_at core.plan.graph n) (task_is n inside) kind in
      let parts = all_but_last (UpTo core.horizon.until) before adds.0 (subst (AllByRecursion (UpTo core.horizon.until)) adds.1 all) in
      adds.1
      ∙ ap (λ (l : List OutFlow). l ++ adds.0 ∷ []) (below before are parts.0)
      ∙ ap (λ (out : OutFlow). below_are n ++ out ∷ []) (flow_is n inside adds.0 adds.2 parts.1 task)
      ∙ extended n task

  flows_are : (n : ℕ) → n ≤ length core.plan.graph.tasks → (outs : List OutFlow) → AreFlowsBelow core n outs → AllByRecursion (UpTo core.horizon.until) outs
      → outs ≡ below_are n
  flows_are zero within outs are all =
      let none : 0 ≡ 0 - actuator_no p 0 = omega arith in
      are ∙ ap (λ (m : ℕ). out_flows p.out_devices clocks flows 0 (take m p.outs)) none
  flows_are (suc n) within outs are all =
      step n (omega (arith, within)) (flows_are n (omega (arith, within))) (task_at core.plan.graph n).kind refl are.0 outs are.1 are.2 all

  pub outputs_are : (outs : List OutFlow) → AreFlowsBelow core (length core.plan.graph.tasks) outs → AreUpTo core.horizon.until outs
      → outs ≡ out_flows p.out_devices clocks flows 0 p.outs
  outputs_are outs are up_to =
      let count = is_graph.tasks.count in
      let tasks = length core.plan.graph.tasks in
      flows_are tasks (omega arith) outs are (recursion_from_All (UpTo core.horizon.until) outs up_to)
      ∙ ap (λ (l : List FlowNo). out_flows p.out_devices clocks flows 0 l) (take_all (tasks - actuator_no p 0) p.outs (omega (arith, count)))
