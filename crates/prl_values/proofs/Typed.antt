-- What jobs read has the types of their edges.
use Rattle.prl_base.proofs.Standard.{◌≡◌, ◌<◌, ◌≤◌, ℕ, zero, suc, Bool, true, false, List, [], ◌∷◌, length, map, Option, Some, refl, sym, ◌∙◌, ap, subst, arith, eqb, cond, pos, slice_get, unwrap_or}
use Rattle.prl_base.proofs.Standard.{slice_get-get_or, get_or_from_slice_get, slice_get_within}
use Rattle.prl_base.specs.Values.{type_of}
use Rattle.prl_base.specs.declared.values.Ty.{Ty}
use Rattle.prl_base.specs.declared.values.Value.{Value}
use Rattle.prl_base.specs.declared.values.Value.TheVariants as values
use Rattle.prl_body.specs.Bodies.{input_types, output_types, register_types}
use Rattle.prl_body.specs.declared.bodies.CheckedBody.{CheckedBody}
use Rattle.prl_body.proofs.Sound.{types_step}
use Rattle.prl_flow.specs.Vocabulary.{registers_before, nth_step, Rows, rows_of}
use Rattle.prl_plan.specs.Vocabulary.{IsEdge, IsSource, is_sensor, is_actuator, task_at, IsHorizonJob, operand_of, operand_from, walk, ComesFrom, PlanView, IsPlan, edge_at, no_edge, release_at}
use Rattle.prl_plan.specs.declared.graphs.Edge.{Edge}
use Rattle.prl_plan.specs.declared.graphs.Kind.{Kind}
use Rattle.prl_plan.specs.declared.graphs.Producer.{Producer}
use Rattle.prl_plan.specs.declared.graphs.TaskGraph.{TaskGraph}
use Rattle.prl_plan.specs.declared.walks.Operand.{Operand}
use Rattle.prl_plan.specs.declared.graphs.Kind.TheVariants as kinds
use Rattle.prl_plan.specs.declared.graphs.Producer.TheVariants as producers
use Rattle.prl_plan.specs.declared.walks.Operand.TheVariants as operands
use Rattle.prl_plan.proofs.ReadOrder.{read_earlier, releases_rise, read_of_horizon, earlier_horizon, constant_typed}
use Rattle.prl_values.specs.JobValues.{JobValues, AreJobValues, gives, step_outputs, at_most_one, value_from, value_on, read_on, reads_over, reads_of_job, body_of_task}
use Rattle.prl_values.specs.Fitting.{port_types, HasOutput, FitsTask, HaveTaskBodies, HaveTypedRows}
use Rattle.prl_values.proofs.Settled.{test_equal}

-- a value of this type is there
abbrev pub IsTyped : Option Value → Ty → Type 0
IsTyped o ty = (value : Value) × (o ≡ Some value) × (type_of value ≡ ty)

-- an element of a list whose types are these
typed_element : (vs : List Value) (types : List Ty) (k : ℕ) (ty : Ty) → map type_of vs ≡ types → slice_get types k ≡ Some ty → IsTyped (slice_get vs k) ty
typed_element [] types k ty same at = absurd (let e : slice_get [] k ≡ Some ty = subst (λ (l : List Ty). slice_get l k ≡ Some ty) (sym same) at in none k ty e)
  where
    none : (k : ℕ) (ty : Ty) → slice_get [] k ≡ Some ty → ⊥
    none zero ty e = cc
    none (suc k) ty e = cc
typed_element (v ∷ vs) types zero ty same at =
    let e : Some (type_of v) ≡ Some ty = ap (λ (l : List Ty). slice_get l 0) same ∙ at in
    (v, refl, (let f : type_of v ≡ ty = cc in f))
typed_element (v ∷ vs) types (suc k) ty same at =
    typed_element vs (map type_of vs) k ty refl (subst (λ (l : List Ty). slice_get l (suc k) ≡ Some ty) (sym same) at)

-- the types of what is read over edges
reads_typed : (v : JobValues) (edges : List Edge) (i n : ℕ) →
    ((k : ℕ) (edge : Edge) → slice_get edges k ≡ Some edge → edge.to.0 ≡ i → IsTyped (value_on v edge n) edge.ty) →
    map type_of (reads_over v edges i n) ≡ port_types edges i
reads_typed v [] i n typed = refl
reads_typed v (edge ∷ edges) i n typed = go (reads_typed v edges i n (λ k x at to. typed (suc k) x at to)) (eqb edge.to.0 i) refl
  where
    go : map type_of (reads_over v edges i n) ≡ port_types edges i → (b : Bool) → eqb edge.to.0 i ≡ b →
        map type_of (cond (eqb edge.to.0 i) (read_on v edge n ∷ reads_over v edges i n) (reads_over v edges i n))
        ≡ cond (eqb edge.to.0 i) (edge.ty ∷ port_types edges i) (port_types edges i)
    go rest false test =
        subst (λ (b : Bool). map type_of (cond b (read_on v edge n ∷ reads_over v edges i n) (reads_over v edges i n))
        ≡ cond b (edge.ty ∷ port_types edges i) (port_types edges i)) (sym test) rest
    go rest true test =
        let t = typed 0 edge refl (test_equal edge.to.0 i test) in
        let first : type_of (read_on v edge n) ≡ edge.ty = ap (λ (o : Option Value). type_of (unwrap_or o (values.Int (pos 0)))) t.1 ∙ t.2 in
        subst (λ (b : Bool). map type_of (cond b (read_on v edge n ∷ reads_over v edges i n) (reads_over v edges i n))
        ≡ cond b (edge.ty ∷ port_types edges i) (port_types edges i)) (sym test)
        (ap (λ (t : Ty). t ∷ map type_of (reads_over v edges i n)) first ∙ ap (λ (l : List Ty). edge.ty ∷ l) rest)

-- registers keep their types where the inputs have theirs
registers_typed : (body : CheckedBody) → (graph : TaskGraph) (i : ℕ) → FitsTask graph i body → (inputs : ℕ → List Value) (n : ℕ) →
    ((m : ℕ) → m < n → map type_of (inputs m) ≡ input_types body) → map type_of (registers_before body inputs n) ≡ register_types body
registers_typed body graph i fits inputs zero typed = refl
registers_typed body graph i fits inputs (suc n) typed =
    (types_step body (inputs n) (registers_before body inputs n) fits.typed (typed n (omega arith))
    (registers_typed body graph i fits inputs n (λ m below. typed m (omega (arith, below))))).1

no_instance : (value : Value) (o : Operand) (m : ℕ) → operand_from (producers.Constant value) o ≡ operands.From m → ⊥
no_instance value (operands.Const c) m h = cc
no_instance value (operands.From k) m h = cc

first_typed : (o : Option Value) (value : Value) (out : ℕ) → o ≡ Some value → out ≡ 0 → slice_get (at_most_one o) out ≡ Some value
first_typed o value out is none =
    ap (λ (x : Option Value). slice_get (at_most_one x) out) is ∙ ap (λ (k : ℕ). slice_get (value ∷ []) k) none

module _ (plan : PlanView) (is : IsPlan plan) (bodies : List CheckedBody) (rows : Rows) (until : ℕ) (v : JobValues)
    (have_bodies : HaveTaskBodies plan.graph bodies) (have_rows : HaveTypedRows plan.graph until rows) (of : AreJobValues plan.graph bodies rows until v) where
  edge_stands : (e : ℕ) → e < length plan.graph.edges → slice_get plan.graph.edges e ≡ Some (edge_at plan.graph e)
  edge_stands e inside = slice_get-get_or plan.graph.edges e no_edge inside

  -- what an output gives, where the reads of the job and those before it have their types
  abbrev ReadsTyped : ℕ → ℕ → Type 0
  ReadsTyped i n = map type_of (reads_of_job plan.graph v i n) ≡ port_types plan.graph.edges i

  output_typed : (e i n : ℕ) (task out : ℕ) → e < length plan.graph.edges → (edge_at plan.graph e).from ≡ producers.Port (record { 0 = task }) out → task ≡ i → IsHorizonJob plan.graph until i n →
      ((m : ℕ) → m ≤ n → ReadsTyped i m) → IsTyped (slice_get (v i n) out) (edge_at plan.graph e).ty
  output_typed e i n task out inside from at job typed =
      subst (λ (l : List Value). IsTyped (slice_get l out) (edge_at plan.graph e).ty) (sym (of.each i n job)) (go (task_at plan.graph i).kind refl)
    where
      edge : Edge
      edge = edge_at plan.graph e

      fact : IsEdge plan.graph (edge_at plan.graph e)
      fact = is.graph.edges e (edge_at plan.graph e) (slice_get-get_or plan.graph.edges e no_edge inside)

      source : IsSource plan.graph (edge_at plan.graph e) fact.clocks.0 (producers.Port (record { 0 = task }) out)
      source = subst (λ (f : Producer). IsSource plan.graph (edge_at plan.graph e) fact.clocks.0 f) from fact.clocks.2

      comes : ComesFrom (edge_at plan.graph e).from i
      comes = subst (λ (f : Producer). ComesFrom f i) (sym from) at

      stands : slice_get plan.graph.edges e ≡ Some (edge_at plan.graph e)
      stands = slice_get-get_or plan.graph.edges e no_edge inside

      go : (kind : Kind) → (task_at plan.graph i).kind ≡ kind →
          IsTyped (slice_get (gives (task_at plan.graph i).kind rows (body_of_task bodies (task_at plan.graph i)) (reads_of_job plan.graph v i) n) out) (edge_at plan.graph e).ty
      go (kinds.Sensor k) kind =
          let row = have_rows.each i k n kind job in
          let none : out ≡ 0 = source.2 (ap (λ (j : ℕ). is_sensor (task_at plan.graph j).kind) at ∙ ap is_sensor kind) in
          subst (λ (x : Kind). IsTyped (slice_get (gives x rows (body_of_task bodies (task_at plan.graph i)) (reads_of_job plan.graph v i) n) out) (edge_at plan.graph e).ty) (sym kind)
          (row.0, first_typed (slice_get (rows_of rows k) n) row.0 out row.1 none, row.2 e (edge_at plan.graph e) stands comes)
      go (kinds.Node k) kind =
          let has = have_bodies.each i k job.task kind in
          let body : CheckedBody = has.0 in
          let fits : FitsTask plan.graph i body = has.2 in
          let inputs : (m : ℕ) → m ≤ n → map type_of (reads_of_job plan.graph v i m) ≡ input_types body = λ m before. typed m before ∙ sym fits.inputs in
          let registers = registers_typed body plan.graph i fits (reads_of_job plan.graph v i) n (λ m below. inputs m (omega (arith, below))) in
          let outputs : map type_of (nth_step body (reads_of_job plan.graph v i) n).outputs ≡ output_types body =
          (types_step body (reads_of_job plan.graph v i n) (registers_before body (reads_of_job plan.graph v i) n) fits.typed (inputs n (omega arith)) registers).0 in
          let has_output : HasOutput (producers.Port (record { 0 = task }) out) (output_types body) (edge_at plan.graph e).ty =
          subst (λ (f : Producer). HasOutput f (output_types body) (edge_at plan.graph e).ty) from (fits.outputs e (edge_at plan.graph e) stands comes) in
          subst (λ (x : Kind). IsTyped (slice_get (gives x rows (body_of_task bodies (task_at plan.graph i)) (reads_of_job plan.graph v i) n) out) (edge_at plan.graph e).ty) (sym kind)
          (subst (λ (b : Option CheckedBody). IsTyped (slice_get (step_outputs b (reads_of_job plan.graph v i) n) out) (edge_at plan.graph e).ty) (sym has.1)
          (typed_element (nth_step body (reads_of_job plan.graph v i) n).outputs (output_types body) out (edge_at plan.graph e).ty outputs has_output))
      go (kinds.Actuator k) kind =
          absurd (let e : false ≡ true = sym source.1 ∙ ap (λ (j : ℕ). is_actuator (task_at plan.graph j).kind) at ∙ ap is_actuator kind in cc)

  -- what comes from a value there or from a producer's output
  from_operand : (e n : ℕ) → e < length plan.graph.edges → IsHorizonJob plan.graph until (edge_at plan.graph e).to.0 n →
      ((j m : ℕ) → ComesFrom (edge_at plan.graph e).from j → operand_of (edge_at plan.graph e) n ≡ operands.From m → (k : ℕ) → k ≤ m → ReadsTyped j k) →
      IsTyped (value_on v (edge_at plan.graph e) n) (edge_at plan.graph e).ty
  from_operand e n inside job typed = go (edge_at plan.graph e).from refl (operand_of (edge_at plan.graph e) n) refl
    where
      to_go : (from : Producer) (o : Operand) → (edge_at plan.graph e).from ≡ from → operand_of (edge_at plan.graph e) n ≡ o →
          IsTyped (value_from v from o) (edge_at plan.graph e).ty → IsTyped (value_on v (edge_at plan.graph e) n) (edge_at plan.graph e).ty
      to_go from o f w h =
          subst (λ (x : Operand). IsTyped (value_from v (edge_at plan.graph e).from x) (edge_at plan.graph e).ty) (sym w)
          (subst (λ (y : Producer). IsTyped (value_from v y o) (edge_at plan.graph e).ty) (sym f) h)

      go : (from : Producer) → (edge_at plan.graph e).from ≡ from → (o : Operand) → operand_of (edge_at plan.graph e) n ≡ o →
          IsTyped (value_on v (edge_at plan.graph e) n) (edge_at plan.graph e).ty
      go from f (operands.Const c) w = to_go from (operands.Const c) f w (c, refl, (constant_typed plan.graph is.graph e n c inside w).0)
      go (producers.Constant value) f (operands.From m) w =
          absurd (no_instance value (walk (edge_at plan.graph e).ops n) m
          (subst (λ (y : Producer). operand_from y (walk (edge_at plan.graph e).ops n) ≡ operands.From m) f w))
      go (producers.Port task out) f (operands.From m) w =
          let comes : ComesFrom (edge_at plan.graph e).from task.0 = subst (λ (y : Producer). ComesFrom y task.0) (sym f) refl in
          to_go (producers.Port task out) (operands.From m) f w
          (output_typed e task.0 m task.0 out inside f refl (read_of_horizon plan.graph is.graph until e task.0 n m inside comes job w) (typed task.0 m comes w))

  -- by the encoded releases
  reads_by : (bound i n : ℕ) → release_at plan i n < bound → IsHorizonJob plan.graph until i n → ReadsTyped i n
  reads_by zero i n early job = absurd (omega (arith, early))
  reads_by (suc bound) i n early job =
      reads_typed v plan.graph.edges i n
      (λ e edge found to.
      (let inside = slice_get_within plan.graph.edges e edge found in
      let at : edge_at plan.graph e ≡ edge = get_or_from_slice_get plan.graph.edges e edge no_edge found in
      let here : (edge_at plan.graph e).to.0 ≡ i = ap (λ (x : Edge). x.to.0) at ∙ to in
      let mine : IsHorizonJob plan.graph until (edge_at plan.graph e).to.0 n = subst (λ (x : ℕ). IsHorizonJob plan.graph until x n) (sym here) job in
      subst (λ (x : Edge). IsTyped (value_on v x n) x.ty) at
      (from_operand e n inside mine
      (λ j m comes reads k before.
      (let less : release_at plan j m < release_at plan i n =
      subst (λ (x : ℕ). release_at plan j m < release_at plan x n) here (read_earlier plan is e j n m inside comes reads) in
      let given_job = read_of_horizon plan.graph is.graph until e j n m inside comes mine reads in
      let up = releases_rise plan is j k m given_job.task before in
      reads_by bound j k (omega (arith, less, up, early)) (earlier_horizon plan.graph until j k m before given_job))))))

  pub reads_are_typed : (i n : ℕ) → IsHorizonJob plan.graph until i n → map type_of (reads_of_job plan.graph v i n) ≡ port_types plan.graph.edges i
  reads_are_typed i n job = reads_by (suc (release_at plan i n)) i n (omega arith) job

  pub edges_are_typed : (e n : ℕ) → e < length plan.graph.edges → IsHorizonJob plan.graph until (edge_at plan.graph e).to.0 n →
      (value : Value) × (value_on v (edge_at plan.graph e) n ≡ Some value) × (type_of value ≡ (edge_at plan.graph e).ty)
  edges_are_typed e n inside job =
      from_operand e n inside job
      (λ j m comes reads k before.
      (let given_job = read_of_horizon plan.graph is.graph until e j n m inside comes job reads in
      reads_are_typed j k (earlier_horizon plan.graph until j k m before given_job)))

  pub registers_are_typed : (i n : ℕ) → IsHorizonJob plan.graph until i n → (body : CheckedBody) → body_of_task bodies (task_at plan.graph i) ≡ Some body → FitsTask plan.graph i body →
      map type_of (registers_before body (reads_of_job plan.graph v i) n) ≡ register_types body
  registers_are_typed i n job body named fits =
      registers_typed body plan.graph i fits (reads_of_job plan.graph v i) n
      (λ m below. reads_are_typed i m (earlier_horizon plan.graph until i m n (omega (arith, below)) job) ∙ sym fits.inputs)
