-- The task graph of a flat program is well formed.
use Rattle.prl_base.proofs.Standard.{◌≡◌, ◌<◌, ◌≤◌, ◌+◌, ◌^◌, ℕ, true, false, List, [], length, slice_get, Some, None, refl, sym, ◌∙◌, ap, subst, arith, ⊎_elim, slice_index_or, unwrap_or, false≢true}
use Rattle.prl_base.proofs.Standard.{slice_get_within, get_or_from_slice_get}
use Rattle.prl_base.specs.Values.{IsOfType}
use Rattle.prl_base.specs.declared.numbers.FlowNo.{FlowNo}
use Rattle.prl_base.specs.declared.operators.Clock.{Clock}
use Rattle.prl_flow.specs.Vocabulary.{FlatProgram, IsFlat, IsWellDefined, AreClocks, clock_of, HasNoCycle}
use Rattle.prl_flow.specs.declared.programs.App.{App}
use Rattle.prl_flow.specs.declared.programs.Arg.{Arg}
use Rattle.prl_flow.specs.declared.programs.Def.{Def}
use Rattle.prl_flow.specs.declared.programs.Flow.{Flow}
use Rattle.prl_flow.specs.declared.programs.Def.TheVariants as definitions
use Rattle.prl_flow.proofs.Lists.{element_at}
use Rattle.prl_plan.specs.Vocabulary.{Divides, HasOnePort, IsEdge, IsSource, IsTask, IsTaskName, IsWellFormed, TakeClock, is_actuator, is_sensor, no_task, task_at}
use Rattle.prl_plan.specs.declared.graphs.Edge.{Edge}
use Rattle.prl_plan.specs.declared.graphs.Task.{Task}
use Rattle.prl_plan.specs.declared.graphs.TaskGraph.{TaskGraph}
use Rattle.prl_graph.specs.Vocabulary.{IsLeastDue, IsWithinPeriod, IsProducer, InputPort, actuator_no, actuator_ports, application_ports, node_no, ports_of, task_count, AreSmallClocks, IsGraphOf}
use Rattle.prl_graph.specs.Vocabulary.{IsTaskOf, actuator_task, application_clock, device_due, node_task, sensor, node, actuator, sensor_task}
use Rattle.prl_graph.proofs.Lists.{append_right}
use Rattle.prl_graph.proofs.Names.{named_rightly, names_differ}
use Rattle.prl_graph.proofs.Order.{Match, edges_in_order}
use Rattle.prl_graph.proofs.Ports.{IsActuatorPort, IsArgumentPort, find_actuator, port_is, port_within}
use Rattle.prl_graph.proofs.TaskFacts.{actuator_device, actuator_found, node_found, sensor_device, sensor_found, tasks_numbered}
use Rattle.prl_graph.proofs.Walks.{end_within, few_operators, few_steps, steps_of}
use Rattle.prl_graph.proofs.Ways.{clock_found, one_type, operators_fit, same_flow, takes_clock}

module _ (p : FlatProgram) (clocks : List Clock) (flat : IsFlat p) (are : AreClocks p clocks) (small : AreSmallClocks clocks) (g : TaskGraph) (of : IsGraphOf p clocks g) where
  there : (i : ℕ) → i < length p.flows → i < length clocks
  there i below = (let count = are.count in omega arith)

  -- a period and a start in their ranges, and a period that divides the hyperperiod
  record IsRightClock (clock : Clock) : Type 0 where
    period : (1 ≤ clock.period) × (clock.period < 2 ^ 31)
    start : clock.start < 2 ^ 31
    divides : Divides clock.period g.hyper

  right_clock : (i : ℕ) → i < length p.flows → IsRightClock (clock_of clocks i)
  right_clock i below = record {
    period = (are.clock i (there i below), small.period i (there i below));
    start = small.start i (there i below);
    divides = of.hyper.multiple i (clock_of clocks i) (clock_found p clocks flat are i below);
  }

  -- the due of a device lies within its period
  device_due_within : (i : ℕ) → i < length p.flows → IsWithinPeriod clocks i (device_due p clocks i)
  device_due_within i below =
      let at = element_at p.flows i below in
      let period = (clock_of clocks i).period in
      rw at.1
      (elim at.0.due as (λ o. at.0.due ≡ o → IsWithinPeriod clocks i (unwrap_or o period)) [
        | Some due ↦ λ e. of.dues.within i due (record { flow = at.0; found = at.1; noted = e })
        | None ↦ λ e. (let e : period ≤ period = omega arith in (are.clock i (there i below), e))
      ] refl)

  -- a clock and a due of a task
  record IsRightTask (task : Task) : Type 0 where
    clock : IsRightClock task.clock
    due : (1 ≤ task.due) × (task.due ≤ task.clock.period)
    wcet : (1 ≤ task.wcet) × (task.wcet < 2 ^ 31)

  input_below : (k : ℕ) (flow : FlowNo) → slice_get p.ins k ≡ Some flow → flow.0 < length p.flows
  input_below k flow found = (let is = flat.ins k flow found in slice_get_within p.flows flow.0 is.0 is.1)

  first_output : (app : App) → FlowNo
  first_output app = slice_index_or app.outs 0 (record { 0 = 0 })

  application_right : (k : ℕ) (app : App) → slice_get p.apps k ≡ Some app → IsRightClock (application_clock clocks app)
  application_right k app found =
      let is = flat.apps k app found in
      let at = element_at app.outs 0 is.has_output in
      let output = is.outs 0 at.0 at.1 in
      let first = get_or_from_slice_get app.outs 0 at.0 (record { 0 = 0 }) at.1 in
      subst (λ (f : FlowNo). IsRightClock (clock_of clocks f.0)) (sym first) (right_clock at.0.0 (slice_get_within p.flows at.0.0 output.0 output.1))

  node_due : (k : ℕ) (app : App) (due : ℕ) → slice_get p.apps k ≡ Some app → IsLeastDue p k (application_clock clocks app).period due → 1 ≤ due
  node_due k app due found least =
      ⊎_elim
      (λ same. (let positive = (application_right k app found).period.0 in let e : due ≡ (application_clock clocks app).period = same in omega arith))
      (λ (i, binds). (of.dues.within i due binds.notes).0)
      least.attained

  right_task : (i : ℕ) (task : Task) → IsTaskOf p clocks i task → IsRightTask task
  right_task i task (sensor is) =
      let below = input_below i is.flow is.found in
      subst IsRightTask (sym is.is) (record {
        clock = right_clock is.flow.0 below;
        due = device_due_within is.flow.0 below;
        wcet = (flat.devices.0 i (slice_index_or p.in_devices i ([], 0)) (sensor_device p flat i is.flow is.found)).1;
      })
  right_task i task (node is) =
      subst IsRightTask (sym is.is) (record {
        clock = application_right is.number is.app is.found;
        due = (node_due is.number is.app is.due is.found is.least, is.least.within);
        wcet = (flat.apps is.number is.app is.found).wcet;
      })
  right_task i task (actuator is) =
      let below = flat.outs is.number is.flow is.found in
      subst IsRightTask (sym is.is) (record {
        clock = right_clock is.flow.0 below;
        due = device_due_within is.flow.0 below;
        wcet = (flat.devices.0 (length p.ins + is.number) (slice_index_or p.out_devices is.number ([], 0)) (actuator_device p flat is.number is.flow is.found)).1;
      })

  task_is : (i : ℕ) (task : Task) → slice_get g.tasks i ≡ Some task → IsTaskName task.kind task.name → IsTask g.hyper task
  task_is i task found name =
      let right = right_task i task (of.tasks.each i task found) in
      record {
        name = name;
        period = right.clock.period;
        start = right.clock.start;
        wcet = right.wcet;
        due = right.due;
        divides = right.clock.divides;
      }

  -- the task of a number, and what it is
  task_of : (i : ℕ) → i < task_count p → IsTaskOf p clocks i (task_at g i)
  task_of i below =
      let at = element_at g.tasks i (omega arith) in
      subst (λ t. IsTaskOf p clocks i t) (sym (get_or_from_slice_get g.tasks i at.0 no_task at.1)) (of.tasks.each i at.0 at.1)

  within_tasks : (i : ℕ) → i < task_count p → i < length g.tasks
  within_tasks i below = (let count = of.tasks.count in omega arith)

  pub sensor_at : (k : ℕ) (flow : FlowNo) → slice_get p.ins k ≡ Some flow → (k < length g.tasks) × (task_at g k ≡ sensor_task p clocks k flow)
  sensor_at k flow found =
      let below = slice_get_within p.ins k flow found in
      let low : k < task_count p = omega arith in
      (within_tasks k low, sensor_found p clocks k flow (task_at g k) found (task_of k low))

  pub node_at : (k : ℕ) (app : App) → slice_get p.apps k ≡ Some app → (node_no p k < length g.tasks) × ((due : ℕ) × (task_at g (node_no p k) ≡ node_task clocks k app due))
  node_at k app found =
      let below = slice_get_within p.apps k app found in
      let low : node_no p k < task_count p = omega arith in
      let is = node_found p clocks k app (task_at g (node_no p k)) found (task_of (node_no p k) low) in
      (within_tasks (node_no p k) low, (is.0, is.2))

  pub actuator_at : (k : ℕ) (flow : FlowNo) → slice_get p.outs k ≡ Some flow → (actuator_no p k < length g.tasks) × (task_at g (actuator_no p k) ≡ actuator_task p clocks k flow)
  actuator_at k flow found =
      let below = slice_get_within p.outs k flow found in
      let low : actuator_no p k < task_count p = omega arith in
      (within_tasks (actuator_no p k) low, actuator_found p clocks k flow (task_at g (actuator_no p k)) found (task_of (actuator_no p k) low))

  -- the consumer of a port: its task is no sensor's, and has the clock of the port's flow
  record IsConsumer (port : InputPort) (i : ℕ) : Type 0 where
    within : i < length g.tasks
    receives : is_sensor (task_at g i).kind ≡ false
    clock : (task_at g i).clock ≡ clock_of clocks port.flow

  pub application_clock_is : (k : ℕ) (app : App) → slice_get p.apps k ≡ Some app → (j : ℕ) (arg : Arg) → slice_get app.args j ≡ Some arg → application_clock clocks app ≡ clock_of clocks arg.flow.0
  application_clock_is k app found j arg at =
      let one = are.apps k app found in
      let first = element_at app.outs 0 (flat.apps k app found).has_output in
      let is = get_or_from_slice_get app.outs 0 first.0 (record { 0 = 0 }) first.1 in
      ap (λ (f : FlowNo). clock_of clocks f.0) is ∙ one.outs 0 first.0 first.1 ∙ sym (one.args j arg at)

  pub output_clock_is : (k : ℕ) (app : App) → slice_get p.apps k ≡ Some app → (j : ℕ) (flow : FlowNo) → slice_get app.outs j ≡ Some flow → clock_of clocks flow.0 ≡ application_clock clocks app
  output_clock_is k app found j flow at =
      let one = are.apps k app found in
      let first = element_at app.outs 0 (flat.apps k app found).has_output in
      let is = get_or_from_slice_get app.outs 0 first.0 (record { 0 = 0 }) first.1 in
      one.outs j flow at ∙ sym (one.outs 0 first.0 first.1) ∙ sym (ap (λ (f : FlowNo). clock_of clocks f.0) is)

  consumer_is : (e : ℕ) (port : InputPort) → slice_get (ports_of p) e ≡ Some port → IsConsumer port port.task
  consumer_is e port at =
      ⊎_elim
      (λ (a : IsArgumentPort p port).
      (let is = node_at a.number a.app a.applied in
      subst (IsConsumer port) (sym a.task) (record {
        within = is.0;
        receives = rw is.1.1 refl;
        clock = ap (λ (t : Task). t.clock) is.1.1 ∙ application_clock_is a.number a.app a.applied port.port a.arg a.found ∙ ap (clock_of clocks) (sym a.flow);
      })))
      (λ (b : IsActuatorPort p port).
      (let is = actuator_at b.number b.flow_no b.found in
      subst (IsConsumer port) (sym b.task) (record {
        within = is.0;
        receives = rw is.1 refl;
        clock = ap (λ (t : Task). t.clock) is.1 ∙ ap (clock_of clocks) (sym b.flow);
      })))
      (port_is p e port at)

  -- the clock of the task that reads at a port
  pub port_clock : (e : ℕ) (port : InputPort) → slice_get (ports_of p) e ≡ Some port → (task_at g port.task).clock ≡ clock_of clocks port.flow
  port_clock e port at = (consumer_is e port at).clock

  -- a task by its number
  pub task_known : (i : ℕ) → i < length g.tasks → IsTaskOf p clocks i (task_at g i)
  task_known i below = task_of i (let count = of.tasks.count in omega arith)

  pub match_edges : Match (ports_of p) g.edges
  match_edges = (of.edges.count, λ e port edge at found. (let is = of.edges.each e port edge at found in (is.to, is.port_is)))

  -- the source of an edge
  source_is : (edge : Edge) (source : ℕ) (flow : Flow) (d : Def) → slice_get p.flows source ≡ Some flow → edge.ty ≡ flow.ty → IsWellDefined p source flow.ty d → IsProducer p d edge.from
      → IsSource g edge (clock_of clocks source) edge.from
  source_is edge source flow (definitions.Sensor k) found ty defined from =
      let is = sensor_at k (record { 0 = source }) defined in
      subst (IsSource g edge (clock_of clocks source)) (sym from) (
        is.0,
        rw is.1 refl,
        λ h. refl,
        sym (ap (λ (t : Task). t.clock) is.1),
      )
  source_is edge source flow (definitions.Copy of) found ty defined from = absurd from
  source_is edge source flow (definitions.Const v) found ty defined from =
      subst (IsSource g edge (clock_of clocks source)) (sym from) (subst (λ t. IsOfType t v) (sym ty) defined)
  source_is edge source flow (definitions.Apply app out) found ty defined from =
      let is = node_at app defined.0 defined.1 in
      let not_sensor : is_sensor (task_at g (node_no p app)).kind ≡ false = rw is.1.1 refl in
      subst (IsSource g edge (clock_of clocks source)) (sym from) (
        is.0,
        rw is.1.1 refl,
        λ h. absurd (false≢true (sym not_sensor ∙ h)),
        output_clock_is app defined.0 defined.1 out (record { 0 = source }) defined.2 ∙ sym (ap (λ (t : Task). t.clock) is.1.1),
      )
  source_is edge source flow (definitions.Op op of) found ty defined from = absurd from

  edge_is : HasNoCycle p → (e : ℕ) (edge : Edge) → slice_get g.edges e ≡ Some edge → IsEdge g edge
  edge_is causal e edge found =
      let count = of.edges.count in
      let below = slice_get_within g.edges e edge found in
      let port = element_at (ports_of p) e (omega arith) in
      let is = of.edges.each e port.0 edge port.1 found in
      let start = port_within p flat e port.0 port.1 in
      let consumer = consumer_is e port.0 port.1 in
      let walk = steps_of p port.0.flow is.source edge.ops is.leads in
      let fewer = few_operators p walk.0 port.0.flow is.source edge.ops walk.1 in
      let few = few_steps p causal walk.0 port.0.flow is.source edge.ops walk.1 (end_within p flat port.0.flow is.source edge.ops is.leads start) in
      let number = flat.few in
      let at = element_at p.flows port.0.flow start in
      let typed = one_type p flat port.0.flow is.source edge.ops is.leads at.0 is.flow at.1 is.found in
      record {
        to = subst (λ i. i < length g.tasks) (sym is.to) consumer.within;
        receives = subst (λ i. is_sensor (task_at g i).kind ≡ false) (sym is.to) consumer.receives;
        clocks = (
          clock_of clocks is.source,
          sym is.period,
          source_is edge is.source is.flow is.flow.def is.found is.ty (flat.flows is.source is.flow is.found) is.from,
          subst (λ (c : Clock). TakeClock g.hyper edge.ops (clock_of clocks is.source) c) (sym (ap (λ i. (task_at g i).clock) is.to ∙ consumer.clock))
              (takes_clock p clocks flat are g.hyper of.hyper.multiple port.0.flow is.source edge.ops is.leads start),
        );
        operators = operators_fit p flat port.0.flow is.source edge.ops is.leads edge.ty
            (λ f there. ap (λ (x : Flow). x.ty) (same_flow p port.0.flow f at.0 there at.1) ∙ typed ∙ sym is.ty);
        few = omega arith;
      }

  -- an actuator has its port, and no other
  one_port : (i : ℕ) → i < length g.tasks → is_actuator (task_at g i).kind ≡ true → HasOnePort g i
  one_port i below is = one_port_by i (task_of i (let count = of.tasks.count in omega arith)) is
    where
      one_port_by : (i : ℕ) → IsTaskOf p clocks i (task_at g i) → is_actuator (task_at g i).kind ≡ true → HasOnePort g i
      one_port_by i (sensor a) is = absurd (false≢true (let e : is_actuator (task_at g i).kind ≡ false = ap (λ (t : Task). is_actuator t.kind) a.is in sym e ∙ is))
      one_port_by i (node a) is = absurd (false≢true (let e : is_actuator (task_at g i).kind ≡ false = ap (λ (t : Task). is_actuator t.kind) a.is in sym e ∙ is))
      one_port_by i (actuator a) is =
          let at = find_actuator (actuator_no p 0) p.outs a.number a.flow a.found in
          let index = length (application_ports (node_no p 0) p.apps) + a.number in
          let found = append_right (application_ports (node_no p 0) p.apps) (actuator_ports (actuator_no p 0) p.outs) a.number ∙ at in
          let task : actuator_no p 0 + a.number ≡ i = (let e = a.at in omega arith) in
          let edge_below : index < length g.edges = (let w = slice_get_within (ports_of p) index (record { task = actuator_no p 0 + a.number; port = 0; flow = a.flow.0 }) found in omega arith) in
          let edge = element_at g.edges index edge_below in
          let edge_of = of.edges.each index (record { task = actuator_no p 0 + a.number; port = 0; flow = a.flow.0 }) edge.0 found edge.1 in
          record {
            one = (index, edge.0, edge.1, edge_of.to ∙ task);
            only = λ e other at_e to.
                (let below = slice_get_within g.edges e other at_e in
                let port = element_at (ports_of p) e (omega arith) in
                let is = of.edges.each e port.0 other port.1 at_e in
                is.port_is
                ∙ ⊎_elim
                (λ (b : IsArgumentPort p port.0).
                absurd (omega (arith, b.task, is.to, a.at, to, slice_get_within p.apps b.number b.app b.applied)))
                (λ (b : IsActuatorPort p port.0). b.port_is)
                (port_is p e port.0 port.1));
          }

  pub well_formed : HasNoCycle p → IsWellFormed g
  well_formed causal =
      record {
        kinds = tasks_numbered p clocks g.tasks of.tasks;
        tasks = λ i task found. task_is i task found (named_rightly p clocks flat i task (of.tasks.each i task found));
        names = names_differ p clocks flat g of.few_tasks of.tasks;
        edges = λ e edge found. edge_is causal e edge found;
        order = edges_in_order p g.edges match_edges;
        actuators = one_port;
        hyper = of.hyper.positive;
        few_tasks = omega (arith, of.few_tasks);
        few_edges = omega (arith, of.few_edges);
        few_ticks = of.few_ticks;
        few_jobs = of.few_jobs;
      }
