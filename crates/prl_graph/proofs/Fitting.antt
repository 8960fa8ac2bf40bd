-- Bodies that fit the applications fit their tasks, and rows of the sensors' types serve theirs.
use Rattle.prl_base.proofs.Standard.{◌≡◌, ◌<◌, ◌+◌, ◌*◌, ◌++◌, ◌∷◌, ℕ, zero, suc, Bool, true, false, cond, eqb, List, [], length, slice_get, Some, refl, sym, ◌∙◌, ap, subst, arith, decimal}
use Rattle.prl_base.proofs.Standard.{AllByRecursion, ints, slice_get_within, slice_get-get_or}
use Rattle.prl_base.specs.Vocabulary.{date_at, type_of}
use Rattle.prl_base.specs.declared.numbers.FlowNo.{FlowNo}
use Rattle.prl_base.specs.declared.operators.Clock.{Clock}
use Rattle.prl_base.specs.declared.values.Ty.{Ty}
use Rattle.prl_base.specs.declared.values.Value.{Value}
use Rattle.prl_body.specs.Bodies.{IsWellTyped, body_named, input_types, output_types}
use Rattle.prl_body.specs.declared.bodies.CheckedBody.{CheckedBody}
use Rattle.prl_flow.specs.Vocabulary.{HasBody, HaveBodies, HaveTypes, argument_numbers, FlatProgram, HasType, IsFlat, IsWellDefined, Rows, rows_of, HasRows, clock_of}
use Rattle.prl_flow.specs.declared.programs.App.{App}
use Rattle.prl_flow.specs.declared.programs.Def.{Def}
use Rattle.prl_flow.specs.declared.programs.Flow.{Flow}
use Rattle.prl_flow.specs.declared.programs.Def.TheVariants as definitions
use Rattle.prl_flow.proofs.Lists.{element_at}
use Rattle.prl_plan.specs.Vocabulary.{IsHorizonJob, no_task, task_at, ComesFrom}
use Rattle.prl_plan.specs.declared.graphs.Edge.{Edge}
use Rattle.prl_plan.specs.declared.graphs.Producer.{Producer}
use Rattle.prl_plan.specs.declared.graphs.Task.{Task}
use Rattle.prl_plan.specs.declared.graphs.TaskGraph.{TaskGraph}
use Rattle.prl_plan.specs.declared.graphs.Kind.TheVariants as kinds
use Rattle.prl_plan.specs.declared.graphs.Producer.TheVariants as producers
use Rattle.prl_values.specs.Vocabulary.{FitsTask, HasOutput, HaveTaskBodies, HaveTypedRows, IsTypedFrom, port_types, body_of_task, word_of}
use Rattle.prl_graph.specs.Vocabulary.{IsEdgeOf, IsProducer, InputPort, node_no, ports_of, IsGraphOf, IsNodeTask, IsTaskOf, actuator, node, sensor}
use Rattle.prl_values.proofs.TaskNames.{word_of_node}
use Rattle.prl_graph.proofs.Order.{Match}
use Rattle.prl_graph.proofs.Ports.{port_within}
use Rattle.prl_graph.proofs.PortReads.{flows_read, node_reads}
use Rattle.prl_graph.proofs.JobValues.{named_typed}
use Rattle.prl_graph.proofs.Ways.{one_type, same_flow}

-- the next port and the next edge, where each is the task's or not
abbrev Both : FlatProgram → ℕ → InputPort → Edge → List InputPort → List Edge → Bool → Bool → Type 0
Both p i port edge ports edges s t =
    HaveTypes p (cond s (record { 0 = port.flow } ∷ flows_read ports i) (flows_read ports i)) (cond t (edge.ty ∷ port_types edges i) (port_types edges i))

-- the types at a task's ports are those of the flows that it reads there
types_are : (p : FlatProgram) (i : ℕ) (ports : List InputPort) (edges : List Edge) → Match ports edges
    → ((e : ℕ) (port : InputPort) (edge : Edge) → slice_get ports e ≡ Some port → slice_get edges e ≡ Some edge → HasType p edge.ty (record { 0 = port.flow }))
    → HaveTypes p (flows_read ports i) (port_types edges i)
types_are p i [] [] match each = tt
types_are p i [] (edge ∷ edges) match each = absurd (let c = match.0 in omega arith)
types_are p i (port ∷ ports) [] match each = absurd (let c = match.0 in omega arith)
types_are p i (port ∷ ports) (edge ∷ edges) match each =
    go (eqb port.task i) refl
    (types_are p i ports edges ((let c = match.0 in let e : length edges ≡ length ports = omega arith in e), λ e x y g h. match.1 (suc e) x y g h) (λ e x y g h. each (suc e) x y g h))
  where
    to : edge.to.0 ≡ port.task
    to = (match.1 zero port edge refl refl).0

    go : (t : Bool) → eqb port.task i ≡ t → HaveTypes p (flows_read ports i) (port_types edges i) → Both p i port edge ports edges (eqb port.task i) (eqb edge.to.0 i)
    go true test rest =
        let other : eqb edge.to.0 i ≡ true = ap (λ x. eqb x i) to ∙ test in
        subst (λ s. Both p i port edge ports edges s (eqb edge.to.0 i)) (sym test) (subst (λ t. Both p i port edge ports edges true t) (sym other) (each zero port edge refl refl, rest))
    go false test rest =
        let other : eqb edge.to.0 i ≡ false = ap (λ x. eqb x i) to ∙ test in
        subst (λ s. Both p i port edge ports edges s (eqb edge.to.0 i)) (sym test) (subst (λ t. Both p i port edge ports edges false t) (sym other) rest)

-- flows have one list of types
one_has : (p : FlatProgram) (flow : FlowNo) (a b : Ty) → HasType p a flow → HasType p b flow → a ≡ b
one_has p flow a b (f, found, is) (g, there, same) = sym is ∙ ap (λ (x : Flow). x.ty) (same_flow p flow.0 f g found there) ∙ same

one_types : (p : FlatProgram) (flows : List FlowNo) (a b : List Ty) → HaveTypes p flows a → HaveTypes p flows b → a ≡ b
one_types p [] [] [] h k = refl
one_types p [] [] (y ∷ ys) h k = absurd k
one_types p [] (x ∷ xs) b h k = absurd h
one_types p (f ∷ flows) [] b h k = absurd h
one_types p (f ∷ flows) (x ∷ xs) [] h k = absurd k
one_types p (f ∷ flows) (x ∷ xs) (y ∷ ys) h k =
    ap (λ t. t ∷ xs) (one_has p f x y h.0 k.0) ∙ ap (λ l. y ∷ l) (one_types p flows xs ys h.1 k.1)

-- the type of one of several flows
types_at : (p : FlatProgram) (flows : List FlowNo) (types : List Ty) (j : ℕ) (flow : FlowNo) → HaveTypes p flows types → slice_get flows j ≡ Some flow
    → (ty : Ty) × (slice_get types j ≡ Some ty) × HasType p ty flow
types_at p [] types j flow h at = absurd (cc at)
types_at p (f ∷ flows) [] j flow h at = absurd h
types_at p (f ∷ flows) (x ∷ xs) zero flow h at =
    let same : f ≡ flow = cc in
    (x, refl, subst (HasType p x) same h.0)
types_at p (f ∷ flows) (x ∷ xs) (suc j) flow h at = types_at p flows xs j flow h.1 at

module _ (p : FlatProgram) (clocks : List Clock) (flat : IsFlat p) (g : TaskGraph) (of : IsGraphOf p clocks g) where
  task_of : (i : ℕ) → i < length g.tasks → IsTaskOf p clocks i (task_at g i)
  task_of i below = of.tasks.each i (task_at g i) (slice_get-get_or g.tasks i no_task below)

  -- each edge has a port, and the type of the port's flow
  port_of : (e : ℕ) (edge : Edge) → slice_get g.edges e ≡ Some edge → (port : InputPort) × IsEdgeOf p clocks port edge
  port_of e edge found =
      let port = element_at (ports_of p) e (omega (arith, slice_get_within g.edges e edge found, of.edges.count)) in
      (port.0, of.edges.each e port.0 edge port.1 found)

  port_type : (e : ℕ) (port : InputPort) (edge : Edge) → slice_get (ports_of p) e ≡ Some port → slice_get g.edges e ≡ Some edge
      → HasType p edge.ty (record { 0 = port.flow })
  port_type e port edge at found =
      let is = of.edges.each e port edge at found in
      let there = element_at p.flows port.flow (port_within p flat e port at) in
      (there.0, there.1, one_type p flat port.flow is.source edge.ops is.leads there.0 is.flow there.1 is.found ∙ sym is.ty)

  match : Match (ports_of p) g.edges
  match = (of.edges.count, λ e port edge at found. (let is = of.edges.each e port edge at found in (is.to, is.port_is)))

  -- an output of the application's task has the type of the body's
  output_type : (k source : ℕ) (app : App) (body : CheckedBody) (flow : Flow) (def : Def) (from : Producer) → slice_get p.apps k ≡ Some app
      → HaveTypes p app.outs (output_types body) → slice_get p.flows source ≡ Some flow → IsWellDefined p source flow.ty def → IsProducer p def from
      → ComesFrom from (node_no p k) → HasOutput from (output_types body) flow.ty
  output_type k source app body flow (definitions.Sensor j) from found types at defined is comes =
      absurd (omega (arith, subst (λ (x : Producer). ComesFrom x (node_no p k)) is comes, slice_get_within p.ins j (record { 0 = source }) defined))
  output_type k source app body flow (definitions.Const v) from found types at defined is comes =
      absurd (subst (λ (x : Producer). ComesFrom x (node_no p k)) is comes)
  output_type k source app body flow (definitions.Apply a out) from found types at defined is comes =
      let same : a ≡ k = omega (arith, subst (λ (x : Producer). ComesFrom x (node_no p k)) is comes) in
      let its : defined.0 ≡ app = (let e : Some defined.0 ≡ Some app = sym (ap (slice_get p.apps) (sym same) ∙ defined.1) ∙ found in cc) in
      let typed = types_at p app.outs (output_types body) out (record { 0 = source }) types (ap (λ (x : App). slice_get x.outs out) (sym its) ∙ defined.2) in
      let ty : typed.0 ≡ flow.ty = one_has p (record { 0 = source }) typed.0 flow.ty typed.2 (flow, at, refl) in
      subst (λ (x : Producer). HasOutput x (output_types body) flow.ty) (sym is) (typed.1 ∙ ap (λ (t : Ty). Some t) ty)
  output_type k source app body flow (definitions.Copy of) from found types at defined is comes = absurd is
  output_type k source app body flow (definitions.Op op of) from found types at defined is comes = absurd is

  -- the body of an application fits its task
  fits_node : (bodies : List CheckedBody) → AllByRecursion IsWellTyped bodies → (k : ℕ) (app : App) → slice_get p.apps k ≡ Some app
      → (has : HasBody p bodies app) → FitsTask g (node_no p k) has.body
  fits_node bodies all k app found has = record {
    typed = named_typed bodies app.name has.body all has.named;
    inputs =
        let read : HaveTypes p (argument_numbers app) (port_types g.edges (node_no p k)) =
        subst (λ (flows : List FlowNo). HaveTypes p flows (port_types g.edges (node_no p k))) (node_reads p k app found (slice_get_within p.apps k app found))
        (types_are p (node_no p k) (ports_of p) g.edges match port_type) in
        one_types p (argument_numbers app) (input_types has.body) (port_types g.edges (node_no p k)) has.fits.inputs read;
    outputs = λ e edge at comes.
        let is = (port_of e edge at).1 in
        subst (HasOutput edge.from (output_types has.body)) (sym is.ty)
        (output_type k is.source app has.body is.flow is.flow.def edge.from found has.fits.outputs is.found (flat.flows is.source is.flow is.found) is.from comes);
  }

  -- it is the one that the task's name tells
  named : (bodies : List CheckedBody) (i : ℕ) (task : Task) (is : IsNodeTask p clocks i task) (has : HasBody p bodies is.app)
      → body_of_task bodies task ≡ Some has.body
  named bodies i task is has =
      let name : task.name ≡ is.app.name ++ 64 ∷ decimal is.number = ap (λ (t : Task). t.name) is.is in
      ap (body_named bodies) (ap word_of name ∙ word_of_node is.app.name (decimal is.number) (flat.apps is.number is.app is.found).name) ∙ has.named

  pub task_bodies : (bodies : List CheckedBody) → HaveBodies p bodies → AllByRecursion IsWellTyped bodies → HaveTaskBodies g bodies
  task_bodies bodies have all = record { each = λ i k below kind. by_task i k (task_of i below) kind }
    where
      by_task : (i k : ℕ) → IsTaskOf p clocks i (task_at g i) → (task_at g i).kind ≡ kinds.Node k
          → (body : CheckedBody) × (body_of_task bodies (task_at g i) ≡ Some body) × FitsTask g i body
      by_task i k (sensor is) kind = absurd (let e : kinds.Sensor i ≡ kinds.Node k = sym (ap (λ (t : Task). t.kind) is.is) ∙ kind in cc)
      by_task i k (actuator is) kind = absurd (let e : kinds.Actuator is.number ≡ kinds.Node k = sym (ap (λ (t : Task). t.kind) is.is) ∙ kind in cc)
      by_task i k (node is) kind =
          let has = have is.number is.app is.found in
          (has.body, named bodies i (task_at g i) is has, subst (λ j. FitsTask g j has.body) (sym is.at) (fits_node bodies all is.number is.app is.found has))

  -- the value of a sensor's row has the type of each edge from the sensor's task
  row_type : (k source : ℕ) (flow : FlowNo) (ty : Ty) (at : Flow) (def : Def) (from : Producer) → slice_get p.ins k ≡ Some flow → HasType p ty flow
      → slice_get p.flows source ≡ Some at → IsWellDefined p source at.ty def → IsProducer p def from → ComesFrom from k → k < length p.ins → ty ≡ at.ty
  row_type k source flow ty at (definitions.Sensor j) from found types there defined is comes below =
      let input : slice_get p.ins k ≡ Some (record { 0 = source }) = ap (slice_get p.ins) (sym (subst (λ (x : Producer). ComesFrom x k) is comes)) ∙ defined in
      let same : flow ≡ record { 0 = source } = (let e : Some flow ≡ Some (record { 0 = source }) = sym found ∙ input in cc) in
      one_has p (record { 0 = source }) ty at.ty (subst (HasType p ty) same types) (at, there, refl)
  row_type k source flow ty at (definitions.Const v) from found types there defined is comes below =
      absurd (subst (λ (x : Producer). ComesFrom x k) is comes)
  row_type k source flow ty at (definitions.Apply a out) from found types there defined is comes below =
      absurd (omega (arith, subst (λ (x : Producer). ComesFrom x k) is comes, below))
  row_type k source flow ty at (definitions.Copy of) from found types there defined is comes below = absurd is
  row_type k source flow ty at (definitions.Op op of) from found types there defined is comes below = absurd is

  pub task_rows : (rows : Rows) (until : ℕ) → HasRows p clocks rows until
      → ((k : ℕ) (flow : FlowNo) → slice_get p.ins k ≡ Some flow → (n : ℕ) (v : Value) → slice_get (rows_of rows k) n ≡ Some v → HasType p (type_of v) flow)
      → HaveTypedRows g until rows
  task_rows rows until has typed = record { each = λ i k n kind job. by_task i k n (task_of i job.task) kind job }
    where
      job_date : (i n : ℕ) → IsHorizonJob g until i n → date_at (task_at g i).clock n < until
      job_date i n job =
          let c = (task_at g i).clock in
          let before : c.start + n * c.period < until = omega (arith, ints, job.early) in
          before

      by_task : (i k n : ℕ) → IsTaskOf p clocks i (task_at g i) → (task_at g i).kind ≡ kinds.Sensor k → IsHorizonJob g until i n
          → (value : Value) × (slice_get (rows_of rows k) n ≡ Some value) × IsTypedFrom g i value
      by_task i k n (node is) kind job = absurd (let e : kinds.Node is.number ≡ kinds.Sensor k = sym (ap (λ (t : Task). t.kind) is.is) ∙ kind in cc)
      by_task i k n (actuator is) kind job = absurd (let e : kinds.Actuator is.number ≡ kinds.Sensor k = sym (ap (λ (t : Task). t.kind) is.is) ∙ kind in cc)
      by_task i k n (sensor is) kind job =
          let same : i ≡ k = (let e : kinds.Sensor i ≡ kinds.Sensor k = sym (ap (λ (t : Task). t.kind) is.is) ∙ kind in cc) in
          let row = element_at (rows_of rows i) n (has i is.flow is.found n (subst (λ (t : Task). date_at t.clock n < until) is.is (job_date i n job))) in
          let edges : IsTypedFrom g i row.0 =
          λ e edge at comes.
          let its = (port_of e edge at).1 in
          row_type i its.source is.flow (type_of row.0) its.flow its.flow.def edge.from is.found (typed i is.flow is.found n row.0 row.1) its.found
          (flat.flows its.source its.flow its.found) its.from comes (slice_get_within p.ins i is.flow is.found)
          ∙ sym its.ty in
          (row.0, ap (λ j. slice_get (rows_of rows j) n) (sym same) ∙ row.1, edges)
