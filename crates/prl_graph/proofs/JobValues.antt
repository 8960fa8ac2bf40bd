-- The values of a solution at the dates of jobs are values by instance.
use Rattle.prl_base.proofs.Standard.{◌≡◌, ◌<◌, ◌≤◌, ◌+◌, ◌*◌, ℕ, zero, suc, true, false, cond, List, [], ◌∷◌, ◌++◌, length, map, take, slice_get, Option, Some, refl, sym, ◌∙◌, ap, subst, arith}
use Rattle.prl_base.proofs.Standard.{length-append, decimal, pos, unwrap_or, ints, AllByRecursion, option_map, bytes_eq, mul-le-mul_right, length-map, slice_get_within, slice_get-map}
use Rattle.prl_base.proofs.Standard.{get_or_from_slice_get}
use Rattle.prl_base.specs.Clocks.{date_at}
use Rattle.prl_base.specs.declared.numbers.FlowNo.{FlowNo}
use Rattle.prl_base.specs.declared.operators.Clock.{Clock}
use Rattle.prl_base.specs.declared.values.Value.{Value}
use Rattle.prl_base.specs.declared.values.Value.TheVariants as values
use Rattle.prl_body.specs.Bodies.{IsWellTyped, body_named, body_step, input_types, output_types, register_types, value_expressions}
use Rattle.prl_body.specs.declared.bodies.CheckedBody.{CheckedBody}
use Rattle.prl_body.proofs.Sound.{length_HaveTypes}
use Rattle.prl_flow.specs.Vocabulary.{HaveBodies, HaveTypes, nth_step, registers_before, values_at, value_at, FlatProgram, IsFlat, IsWellDefined, Rows, rows_of, AreClocks, IsOutputFlow, Solves}
use Rattle.prl_flow.specs.Vocabulary.{argument_flows, clock_of, values_of}
use Rattle.prl_flow.specs.declared.programs.App.{App}
use Rattle.prl_flow.specs.declared.programs.Arg.{Arg}
use Rattle.prl_flow.specs.declared.programs.Def.{Def}
use Rattle.prl_flow.specs.declared.programs.Flow.{Flow}
use Rattle.prl_flow.specs.declared.programs.Def.TheVariants as definitions
use Rattle.prl_flow.proofs.Applied as applied
use Rattle.prl_flow.proofs.ClockDates.{value_at_date}
use Rattle.prl_flow.proofs.Lists.{element_at, same_from_elements, slice_get_take}
use Rattle.prl_plan.specs.Vocabulary.{IsTaskName, IsWellFormed, IsHorizonJob, no_task, task_at, operand_from, operand_of, walk}
use Rattle.prl_plan.specs.declared.graphs.Edge.{Edge}
use Rattle.prl_plan.specs.declared.graphs.Kind.{Kind}
use Rattle.prl_plan.specs.declared.graphs.Task.{Task}
use Rattle.prl_plan.specs.declared.graphs.TaskGraph.{TaskGraph}
use Rattle.prl_plan.specs.declared.walks.Operand.{Operand}
use Rattle.prl_plan.specs.declared.graphs.Kind.TheVariants as kinds
use Rattle.prl_plan.specs.declared.graphs.Producer.TheVariants as producers
use Rattle.prl_plan.specs.declared.walks.Operand.TheVariants as operands
use Rattle.prl_values.specs.JobValues.{AreJobValues, at_most_one, body_of_task, given, gives, read_on, reads_of_job, step_outputs, value_from, value_on, word_of}
use Rattle.prl_graph.specs.Vocabulary.{IsProducer, value_of_operand, value_on_date, given_flows, no_flow, outputs_of, value_or_none, values_on_dates, InputPort, actuator_no, node_no, ports_of}
use Rattle.prl_graph.specs.Vocabulary.{AreSmallClocks, IsGraphOf, IsTaskOf, application_clock, sensor, node, actuator}
use Rattle.prl_graph.proofs.EdgeValues.{clock_there, met, on_edge, value_there}
use Rattle.prl_values.proofs.TaskNames.{word_of_node}
use Rattle.prl_graph.proofs.Ports.{port_within}
use Rattle.prl_graph.proofs.PortReads.{actuator_reads, flows_read, node_reads, reads_are}
use Rattle.prl_graph.proofs.WellFormed.{application_clock_is, match_edges, node_at, output_clock_is, port_clock, sensor_at, task_known}

-- the same names where the same is behind them
cancel_right : (xs ys zs : List ℕ) → xs ++ zs ≡ ys ++ zs → xs ≡ ys
cancel_right [] [] zs same = refl
cancel_right [] (y ∷ ys) zs same = absurd (let e = ap length same in let a = length-append ys zs in omega arith)
cancel_right (x ∷ xs) [] zs same = absurd (let e = ap length same in let a = length-append xs zs in omega arith)
cancel_right (x ∷ xs) (y ∷ ys) zs same =
    let rest : xs ≡ ys = cancel_right xs ys zs (let f : xs ++ zs ≡ ys ++ zs = cc in f) in
    cc

-- steps depend on the inputs up to the step
registers_same : (body : CheckedBody) (a b : ℕ → List Value) (n : ℕ) → ((m : ℕ) → m < n → a m ≡ b m) → registers_before body a n ≡ registers_before body b n
registers_same body a b zero same = refl
registers_same body a b (suc n) same =
    ap (λ (x : List Value). (body_step body x (registers_before body a n)).registers) (same n (omega arith))
    ∙ ap (λ (r : List Value). (body_step body (b n) r).registers) (registers_same body a b n (λ m below. same m (omega (arith, below))))

step_same : (body : CheckedBody) (a b : ℕ → List Value) (n : ℕ) → ((m : ℕ) → m ≤ n → a m ≡ b m) → (nth_step body a n).outputs ≡ (nth_step body b n).outputs
step_same body a b n same =
    ap (λ (x : List Value). (body_step body x (registers_before body a n)).outputs) (same n (omega arith))
    ∙ ap (λ (r : List Value). (body_step body (b n) r).outputs) (registers_same body a b n (λ m below. same m (omega (arith, below))))

-- a body of a name is one of the bodies
pub named_typed : (bodies : List CheckedBody) (name : List ℕ) (b : CheckedBody) → AllByRecursion IsWellTyped bodies → body_named bodies name ≡ Some b → IsWellTyped b
named_typed [] name b all named = cc
named_typed (x ∷ bodies) name b all named =
    elim (bytes_eq x.name name) as (λ t. cond t (Some x) (body_named bodies name) ≡ Some b → IsWellTyped b) [
      | true ↦ λ e. subst IsWellTyped (let f : x ≡ b = cc in f) all.0
      | false ↦ λ e. named_typed bodies name b all.1 e
    ] named

-- a step gives one value for each output
outputs_count : (body : CheckedBody) (inputs : ℕ → List Value) (n : ℕ) → IsWellTyped body → length (nth_step body inputs n).outputs ≡ length (output_types body)
outputs_count body inputs n typed =
    length-map (value_expressions body) _ ∙ length_HaveTypes (input_types body) (register_types body) (value_expressions body) (output_types body) typed.outputs

-- the value that is there is the one that is told
told_value : (o : Option Value) (x : Value) → o ≡ Some x → o ≡ Some (unwrap_or o (values.Int (pos 0)))
told_value o x there = there ∙ ap Some (sym (ap (λ (w : Option Value). unwrap_or w (values.Int (pos 0))) there))

module _ (p : FlatProgram) (clocks : List Clock) (bodies : List CheckedBody) (rows : Rows) (until : ℕ) (flows : List (List Value))
    (flat : IsFlat p) (are : AreClocks p clocks) (small : AreSmallClocks clocks) (solves : Solves p clocks bodies rows until flows)
    (g : TaskGraph) (of : IsGraphOf p clocks g) where
  on_date : (f n : ℕ) → f < length p.flows → value_on_date clocks flows f n ≡ slice_get (values_of flows f) n
  on_date f n below = value_at_date (clock_of clocks f) (values_of flows f) n (are.clock f (clock_there p clocks bodies rows until flows flat are solves f below))

  -- a flow has a value at each date before the end
  has_value : (f n : ℕ) → f < length p.flows → date_at (clock_of clocks f) n < until → value_on_date clocks flows f n ≡ Some (value_or_none clocks flows n (record { 0 = f }))
  has_value f n below before =
      let at = value_there p clocks bodies rows until flows flat are solves f n below before in
      told_value (value_on_date clocks flows f n) at.0 (on_date f n below ∙ at.1)

  -- what the producer's task gives at the job of an instance
  producer_gives : (source m : ℕ) (x : Value) (flow : Flow) (d : Def) (edge : Edge) (o : Operand) → slice_get p.flows source ≡ Some flow → flow.def ≡ d → IsProducer p d edge.from
      → operand_from edge.from o ≡ operands.From m → value_on_date clocks flows source m ≡ Some x
      → value_from (values_on_dates p clocks flows g) edge.from (operands.From m) ≡ value_on_date clocks flows source m
  producer_gives source m x flow (definitions.Sensor k) edge o found is produces from there =
      let defined = subst (λ e. IsWellDefined p source flow.ty e) is (flat.flows source flow found) in
      let task = (sensor_at p clocks flat are small g of k (record { 0 = source }) defined).1 in
      ap (λ e. value_from (values_on_dates p clocks flows g) e (operands.From m)) produces
      ∙ ap (λ (t : Task). slice_get (map (value_or_none clocks flows m) (given_flows p t.kind)) 0) task
      ∙ ap (λ (f : FlowNo). Some (value_or_none clocks flows m f)) (get_or_from_slice_get p.ins k (record { 0 = source }) no_flow defined)
      ∙ sym (told_value (value_on_date clocks flows source m) x there)
  producer_gives source m x flow (definitions.Copy by) edge o found is produces from there = absurd produces
  producer_gives source m x flow (definitions.Const c) edge o found is produces from there =
      absurd (no_instance c o (subst (λ e. operand_from e o ≡ operands.From m) produces from))
    where
      no_instance : (c : Value) (o : Operand) → operand_from (producers.Constant c) o ≡ operands.From m → ⊥
      no_instance c (operands.Const d) e = cc
      no_instance c (operands.From l) e = cc
  producer_gives source m x flow (definitions.Apply app out) edge o found is produces from there =
      let defined = subst (λ e. IsWellDefined p source flow.ty e) is (flat.flows source flow found) in
      ap (λ e. value_from (values_on_dates p clocks flows g) e (operands.From m)) produces
      ∙ ap (λ (t : Task). slice_get (map (value_or_none clocks flows m) (given_flows p t.kind)) out) ((node_at p clocks flat are small g of app defined.0 defined.1).1.1)
      ∙ ap (λ (l : List FlowNo). slice_get (map (value_or_none clocks flows m) l) out) (ap (λ (a : App). a.outs) (get_or_from_slice_get p.apps app defined.0 _ defined.1))
      ∙ slice_get-map (value_or_none clocks flows m) defined.0.outs out
      ∙ ap (λ (o : Option FlowNo). option_map (value_or_none clocks flows m) o) defined.2
      ∙ sym (told_value (value_on_date clocks flows source m) x there)
  producer_gives source m x flow (definitions.Op op by) edge o found is produces from there = absurd produces

  -- at a port the task reads the value of the port's flow
  pub port_value : (e : ℕ) (port : InputPort) (edge : Edge) → slice_get (ports_of p) e ≡ Some port → slice_get g.edges e ≡ Some edge → (n : ℕ) → date_at (clock_of clocks port.flow) n < until
      → value_on (values_on_dates p clocks flows g) edge n ≡ value_on_date clocks flows port.flow n
  port_value e port edge at found n before =
      let is = of.edges.each e port edge at found in
      let below = port_within p flat e port at in
      let law = on_edge p clocks bodies rows until flows flat are solves port edge is n below before in
      let there = has_value port.flow n below before in
      by_operand edge is.source is.flow is.found is.from (operand_of edge n) (value_or_none clocks flows n (record { 0 = port.flow })) refl (sym law ∙ there) ∙ sym law
    where
      by_operand : (edge : Edge) (source : ℕ) (flow : Flow) → slice_get p.flows source ≡ Some flow → IsProducer p flow.def edge.from → (o : Operand) (x : Value) → operand_of edge n ≡ o
          → value_of_operand clocks flows source o ≡ Some x → value_from (values_on_dates p clocks flows g) edge.from o ≡ value_of_operand clocks flows source o
      by_operand edge source flow found produces (operands.Const c) x is there = refl
      by_operand edge source flow found produces (operands.From m) x is there = producer_gives source m x flow flow.def edge (walk edge.ops n) found refl produces is there

  port_reads : (e : ℕ) (port : InputPort) (edge : Edge) → slice_get (ports_of p) e ≡ Some port → slice_get g.edges e ≡ Some edge → (n : ℕ) → date_at (clock_of clocks port.flow) n < until
      → read_on (values_on_dates p clocks flows g) edge n ≡ value_or_none clocks flows n (record { 0 = port.flow })
  port_reads e port edge at found n before = ap (λ (o : Option Value). unwrap_or o (values.Int (pos 0))) (port_value e port edge at found n before)

  -- a horizon job's date is before the end
  job_date : (i n : ℕ) → IsHorizonJob g until i n → date_at (task_at g i).clock n < until
  job_date i n job =
      let c = (task_at g i).clock in
      let before : c.start + n * c.period < until = omega (arith, ints, job.early) in
      before

  -- what a job reads is the values of its task's flows
  pub job_reads : (i n : ℕ) → date_at (task_at g i).clock n < until
      → reads_of_job g (values_on_dates p clocks flows g) i n ≡ map (value_or_none clocks flows n) (flows_read (ports_of p) i)
  job_reads i n before =
      reads_are clocks flows (values_on_dates p clocks flows g) i n (ports_of p) g.edges (match_edges p clocks flat are small g of)
      (λ e port edge at found to.
      (let clock = port_clock p clocks flat are small g of e port at in
      port_reads e port edge at found n (subst (λ (c : Clock). date_at c n < until) (ap (λ j. (task_at g j).clock) (sym to) ∙ clock) before)))

  -- a sensor's job gives its row
  sensor_given : (i n : ℕ) (flow : FlowNo) → slice_get p.ins i ≡ Some flow → date_at (clock_of clocks flow.0) n < until
      → map (value_or_none clocks flows n) (given_flows p (kinds.Sensor i)) ≡ at_most_one (slice_get (rows_of rows i) n)
  sensor_given i n flow found before =
      let is = flat.ins i flow found in
      let below = slice_get_within p.flows flow.0 is.0 is.1 in
      let xs = values_of flows flow.0 in
      let first : xs ≡ take (length xs) (rows_of rows i) = met p clocks bodies rows until flows flat are solves flow.0 is.0 (definitions.Sensor i) is.1 is.2 in
      let value = value_or_none clocks flows n flow in
      let at : slice_get xs n ≡ Some value = sym (on_date flow.0 n below) ∙ (has_value flow.0 n below before) in
      let row : slice_get (rows_of rows i) n ≡ Some value =
      sym (slice_get_take (length xs) (rows_of rows i) n (slice_get_within xs n value at)) ∙ ap (λ l. slice_get l n) (sym first) ∙ at in
      ap (λ (f : FlowNo). value_or_none clocks flows n f ∷ []) (get_or_from_slice_get p.ins i flow no_flow found) ∙ ap at_most_one (sym row)

  -- an actuator's job gives what it reads
  actuator_given : (k n : ℕ) (flow : FlowNo) → slice_get p.outs k ≡ Some flow → date_at (task_at g (actuator_no p k)).clock n < until
      → map (value_or_none clocks flows n) (given_flows p (kinds.Actuator k)) ≡ reads_of_job g (values_on_dates p clocks flows g) (actuator_no p k) n
  actuator_given k n flow found before =
      ap (λ (f : FlowNo). value_or_none clocks flows n f ∷ []) (get_or_from_slice_get p.outs k flow no_flow found)
      ∙ ap (map (value_or_none clocks flows n)) (sym (actuator_reads p k flow found))
      ∙ sym (job_reads (actuator_no p k) n before)

  -- the arguments' values at a date, by the flows' own clocks and by that of the application
  arguments_same : (c : Clock) (n : ℕ) (args : List Arg) → ((j : ℕ) (arg : Arg) → slice_get args j ≡ Some arg → clock_of clocks arg.flow.0 ≡ c)
      → map (value_or_none clocks flows n) (map (λ (arg : Arg). arg.flow) args) ≡ values_at c (map (λ (a : Arg). values_of flows a.flow.0) args) n
  arguments_same c n [] one = refl
  arguments_same c n (arg ∷ args) one =
      ap (λ (k : Clock). unwrap_or (value_at k (values_of flows arg.flow.0) (date_at k n)) (values.Int (pos 0)) ∷ map (value_or_none clocks flows n) (map (λ (a : Arg). a.flow) args)) (one zero arg refl)
      ∙ ap (λ l. unwrap_or (value_at c (values_of flows arg.flow.0) (date_at c n)) (values.Int (pos 0)) ∷ l) (arguments_same c n args (λ j a h. one (suc j) a h))

  -- what an application's job reads
  pub node_inputs : (k n : ℕ) (app : App) → slice_get p.apps k ≡ Some app → date_at (application_clock clocks app) n < until
      → reads_of_job g (values_on_dates p clocks flows g) (node_no p k) n ≡ values_at (application_clock clocks app) (argument_flows flows app) n
  node_inputs k n app found before =
      let task = (node_at p clocks flat are small g of k app found).1.1 in
      job_reads (node_no p k) n (subst (λ (t : Task). date_at t.clock n < until) (sym task) before)
      ∙ ap (map (value_or_none clocks flows n)) (node_reads p k app found (slice_get_within p.apps k app found))
      ∙ arguments_same (application_clock clocks app) n app.args (λ j arg at. sym (application_clock_is p clocks flat are small g of k app found j arg at))

  earlier : (c : Clock) (m n : ℕ) → m ≤ n → date_at c n < until → date_at c m < until
  earlier c m n low before = (let e : m * c.period ≤ n * c.period = mul-le-mul_right c.period low in omega arith)

  -- the registers before a job are those that the steps on the arguments' values leave
  pub node_registers : (k n : ℕ) (app : App) (body : CheckedBody) → slice_get p.apps k ≡ Some app → date_at (application_clock clocks app) n < until
      → registers_before body (λ m. reads_of_job g (values_on_dates p clocks flows g) (node_no p k) m) n ≡ registers_before body (λ m. values_at (application_clock clocks app) (argument_flows flows app) m) n
  node_registers k n app body found before =
      registers_same body (λ m. reads_of_job g (values_on_dates p clocks flows g) (node_no p k) m) (λ m. values_at (application_clock clocks app) (argument_flows flows app) m) n
      (λ m low. node_inputs k m app found (earlier (application_clock clocks app) m n (let e : m ≤ n = omega arith in e) before))

  -- a node's job gives the outputs of its step
  node_given : HaveBodies p bodies → AllByRecursion IsWellTyped bodies → (k n : ℕ) (app : App) (body : CheckedBody) → slice_get p.apps k ≡ Some app → body_named bodies app.name ≡ Some body
      → date_at (application_clock clocks app) n < until
      → map (value_or_none clocks flows n) (given_flows p (kinds.Node k)) ≡ (nth_step body (λ m. reads_of_job g (values_on_dates p clocks flows g) (node_no p k) m) n).outputs
  node_given have typed k n app body found named before =
      let c = application_clock clocks app in
      let reads : ℕ → List Value = λ m. reads_of_job g (values_on_dates p clocks flows g) (node_no p k) m in
      let inputs : ℕ → List Value = λ m. values_at c (argument_flows flows app) m in
      let steps : (nth_step body reads n).outputs ≡ (nth_step body inputs n).outputs = step_same body reads inputs n (λ m low. node_inputs k m app found (earlier c m n low before)) in
      let fitting = have k app found in
      let same_body : fitting.body ≡ body = (let e : Some fitting.body ≡ Some body = sym fitting.named ∙ named in cc) in
      let outs : outputs_of p k ≡ app.outs = ap (λ (a : App). a.outs) (get_or_from_slice_get p.apps k app _ found) in
      let types : length app.outs ≡ length (output_types body) = applied.length_HaveTypes p app.outs (output_types body) (subst (λ (b : CheckedBody). HaveTypes p app.outs (output_types b)) same_body fitting.fits.outputs) in
      let count : length (nth_step body inputs n).outputs ≡ length (output_types body) = outputs_count body inputs n (named_typed bodies app.name body typed named) in
      let number : length (map (value_or_none clocks flows n) app.outs) ≡ length (nth_step body inputs n).outputs = length-map app.outs (value_or_none clocks flows n) ∙ types ∙ sym count in
      ap (map (value_or_none clocks flows n)) outs
      ∙ same_from_elements (map (value_or_none clocks flows n) app.outs) (nth_step body inputs n).outputs number
      (λ j below.
      (let at = element_at app.outs j (let l = length-map app.outs (value_or_none clocks flows n) in omega arith) in
      slice_get-map (value_or_none clocks flows n) app.outs j ∙ ap (option_map (value_or_none clocks flows n)) at.1 ∙ output_value k n j app body at.0 found named at.1 before))
      ∙ sym steps
    where
      output_value : (k n j : ℕ) (app : App) (body : CheckedBody) (flow : FlowNo) → slice_get p.apps k ≡ Some app → body_named bodies app.name ≡ Some body → slice_get app.outs j ≡ Some flow
          → date_at (application_clock clocks app) n < until
          → Some (value_or_none clocks flows n flow) ≡ slice_get (nth_step body (λ m. values_at (application_clock clocks app) (argument_flows flows app) m) n).outputs j
      output_value k n j app body flow found named at before =
          let c = application_clock clocks app in
          let clock : clock_of clocks flow.0 ≡ c = output_clock_is p clocks flat are small g of k app found j flow at in
          let output = (flat.apps k app found).outs j flow at in
          let below = slice_get_within p.flows flow.0 output.0 output.1 in
          let date : date_at (clock_of clocks flow.0) n < until = subst (λ (x : Clock). date_at x n < until) (sym clock) before in
          let is : IsOutputFlow p.apps bodies until flows (clock_of clocks flow.0) (values_of flows flow.0) k j = met p clocks bodies rows until flows flat are solves flow.0 output.0 (definitions.Apply k j) output.1 output.2 in
          let same_app : is.app ≡ app = (let e : Some is.app ≡ Some app = sym is.applied ∙ found in cc) in
          let same_body : is.body ≡ body = (let e : Some is.body ≡ Some body = sym is.named ∙ ap (λ (a : App). body_named bodies a.name) same_app ∙ named in cc) in
          sym (has_value flow.0 n below date)
          ∙ is.each n date
          ∙ ap (λ (x : Clock). slice_get (nth_step is.body (values_at x (argument_flows flows is.app)) n).outputs j) clock
          ∙ ap (λ (a : App). slice_get (nth_step is.body (values_at c (argument_flows flows a)) n).outputs j) same_app
          ∙ ap (λ (b : CheckedBody). slice_get (nth_step b (values_at c (argument_flows flows app)) n).outputs j) same_body

  -- the body that a node's task runs
  node_body : IsWellFormed g → (k : ℕ) (app : App) (body : CheckedBody) → slice_get p.apps k ≡ Some app → body_named bodies app.name ≡ Some body
      → body_of_task bodies (task_at g (node_no p k)) ≡ Some body
  node_body well k app body found named =
      let at = node_at p clocks flat are small g of k app found in
      let there = element_at g.tasks (node_no p k) at.0 in
      let is = get_or_from_slice_get g.tasks (node_no p k) there.0 no_task there.1 in
      let name_is = subst (λ (t : Task). IsTaskName t.kind t.name) (sym is ∙ at.1.1) (well.tasks (node_no p k) there.0 there.1).name in
      let words : app.name ≡ name_is.0 = cancel_right app.name name_is.0 (64 ∷ decimal k) name_is.2 in
      let word : word_of (app.name ++ 64 ∷ decimal k) ≡ app.name = ap word_of name_is.2 ∙ word_of_node name_is.0 (decimal k) name_is.1 ∙ sym words in
      ap (λ (t : Task). body_named bodies (word_of t.name)) at.1.1 ∙ ap (body_named bodies) word ∙ named

  pub job_values_are : IsWellFormed g → HaveBodies p bodies → AllByRecursion IsWellTyped bodies → AreJobValues g bodies rows until (values_on_dates p clocks flows g)
  job_values_are well have typed = record {
    each = λ i n job. by_task i n (task_known p clocks flat are small g of i job.task) (job_date i n job);
  }
    where
      by_task : (i n : ℕ) → IsTaskOf p clocks i (task_at g i) → date_at (task_at g i).clock n < until → values_on_dates p clocks flows g i n ≡ given g bodies rows (values_on_dates p clocks flows g) i n
      by_task i n (sensor is) before =
          let date : date_at (clock_of clocks is.flow.0) n < until = subst (λ (t : Task). date_at t.clock n < until) is.is before in
          let P : Task → Type 0 = λ t. map (value_or_none clocks flows n) (given_flows p t.kind) ≡ gives t.kind rows (body_of_task bodies t) (reads_of_job g (values_on_dates p clocks flows g) i) n in
          subst P (sym is.is) (sensor_given i n is.flow is.found date)
      by_task i n (node is) before =
          let k = is.number in
          let fitting = have k is.app is.found in
          let body = fitting.body in
          let date : date_at (application_clock clocks is.app) n < until = subst (λ (t : Task). date_at t.clock n < until) is.is before in
          let task = node_body well k is.app body is.found fitting.named in
          let Q : ℕ → Type 0 = λ j. values_on_dates p clocks flows g j n ≡ given g bodies rows (values_on_dates p clocks flows g) j n in
          let kind : (task_at g (node_no p k)).kind ≡ kinds.Node k = ap (λ j. (task_at g j).kind) (sym is.at) ∙ ap (λ (t : Task). t.kind) is.is in
          subst Q (sym is.at)
          (ap (λ (d : Kind). map (value_or_none clocks flows n) (given_flows p d)) kind
          ∙ node_given have typed k n is.app body is.found fitting.named date
          ∙ ap (λ (b : Option CheckedBody). step_outputs b (λ m. reads_of_job g (values_on_dates p clocks flows g) (node_no p k) m) n) (sym task)
          ∙ ap (λ (d : Kind). gives d rows (body_of_task bodies (task_at g (node_no p k))) (reads_of_job g (values_on_dates p clocks flows g) (node_no p k)) n) (sym kind))
      by_task i n (actuator is) before =
          let k = is.number in
          let Q : ℕ → Type 0 = λ j. values_on_dates p clocks flows g j n ≡ given g bodies rows (values_on_dates p clocks flows g) j n in
          let kind : (task_at g (actuator_no p k)).kind ≡ kinds.Actuator k = ap (λ j. (task_at g j).kind) (sym is.at) ∙ ap (λ (t : Task). t.kind) is.is in
          let date : date_at (task_at g (actuator_no p k)).clock n < until = subst (λ j. date_at (task_at g j).clock n < until) is.at before in
          subst Q (sym is.at)
          (ap (λ (d : Kind). map (value_or_none clocks flows n) (given_flows p d)) kind
          ∙ actuator_given k n is.flow is.found date
          ∙ ap (λ (d : Kind). gives d rows (body_of_task bodies (task_at g (actuator_no p k))) (reads_of_job g (values_on_dates p clocks flows g) (actuator_no p k)) n) (sym kind))
