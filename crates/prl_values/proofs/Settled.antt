-- Values by instance are there and are one: by the encoded releases of jobs.
use Rattle.prl_base.proofs.Standard.{◌≡◌, ◌+◌, ◌<◌, ◌≤◌, ℕ, zero, suc, Bool, true, false, List, [], ◌∷◌, length, Option, Some, None, refl, sym, ◌∙◌, ap, subst, arith, eqb, cond, pos, slice_get}
use Rattle.prl_base.proofs.Standard.{unwrap_or, nat_tests, slice_get-get_or, slice_get_within, get_or_from_slice_get}
use Rattle.prl_base.specs.declared.values.Value.{Value}
use Rattle.prl_base.specs.declared.values.Value.TheVariants as values
use Rattle.prl_body.specs.Bodies.{body_step}
use Rattle.prl_body.specs.declared.bodies.CheckedBody.{CheckedBody}
use Rattle.prl_flow.specs.Vocabulary.{registers_before, Rows}
use Rattle.prl_plan.specs.Vocabulary.{task_at, IsHorizonJob, operand_of, ComesFrom, PlanView, IsPlan, edge_at, no_edge, release_at}
use Rattle.prl_plan.specs.declared.graphs.Edge.{Edge}
use Rattle.prl_plan.specs.declared.graphs.Kind.{Kind}
use Rattle.prl_plan.specs.declared.graphs.Producer.{Producer}
use Rattle.prl_plan.specs.declared.walks.Operand.{Operand}
use Rattle.prl_plan.specs.declared.graphs.Kind.TheVariants as kinds
use Rattle.prl_plan.specs.declared.graphs.Producer.TheVariants as producers
use Rattle.prl_plan.specs.declared.walks.Operand.TheVariants as operands
use Rattle.prl_plan.proofs.ReadOrder.{read_earlier, releases_rise, released_soon, read_of_horizon, earlier_horizon, source_task}
use Rattle.prl_values.specs.JobValues.{JobValues, AreJobValues, job_values, values_after, gives, value_from, value_on, read_on, reads_over, reads_of_job, body_of_task}

pub test_equal : (x y : ℕ) → eqb x y ≡ true → x ≡ y
test_equal x y h = grind (arith, nat_tests)

-- registers and steps depend on the inputs up to the step
registers_same : (body : CheckedBody) (a b : ℕ → List Value) (n : ℕ) → ((m : ℕ) → m < n → a m ≡ b m) → registers_before body a n ≡ registers_before body b n
registers_same body a b zero same = refl
registers_same body a b (suc n) same =
    ap (λ (x : List Value). (body_step body x (registers_before body a n)).registers) (same n (omega arith))
    ∙ ap (λ (r : List Value). (body_step body (b n) r).registers) (registers_same body a b n (λ m below. same m (omega (arith, below))))

gives_same : (kind : Kind) (rows : Rows) (body : Option CheckedBody) (a b : ℕ → List Value) (n : ℕ) → ((m : ℕ) → m ≤ n → a m ≡ b m) →
    gives kind rows body a n ≡ gives kind rows body b n
gives_same (kinds.Sensor k) rows body a b n same = refl
gives_same (kinds.Node k) rows (Some body) a b n same =
    ap (λ (x : List Value). (body_step body x (registers_before body a n)).outputs) (same n (omega arith))
    ∙ ap (λ (r : List Value). (body_step body (b n) r).outputs) (registers_same body a b n (λ m below. same m (omega (arith, below))))
gives_same (kinds.Node k) rows None a b n same = refl
gives_same (kinds.Actuator k) rows body a b n same = same n (omega arith)

-- what is read depends on the producers' jobs alone
value_same : (v w : JobValues) (from : Producer) (o : Operand) → ((i m : ℕ) → ComesFrom from i → o ≡ operands.From m → v i m ≡ w i m) → value_from v from o ≡ value_from w from o
value_same v w from (operands.Const c) same = refl
value_same v w (producers.Port task out) (operands.From m) same = ap (λ (l : List Value). slice_get l out) (same task.0 m refl refl)
value_same v w (producers.Constant value) (operands.From m) same = refl

reads_same : (v w : JobValues) (edges : List Edge) (i n : ℕ) →
    ((k : ℕ) (edge : Edge) → slice_get edges k ≡ Some edge → edge.to.0 ≡ i → value_on v edge n ≡ value_on w edge n) → reads_over v edges i n ≡ reads_over w edges i n
reads_same v w [] i n same = refl
reads_same v w (edge ∷ edges) i n same = go (reads_same v w edges i n (λ k x at to. same (suc k) x at to)) (eqb edge.to.0 i) refl
  where
    go : reads_over v edges i n ≡ reads_over w edges i n → (b : Bool) → eqb edge.to.0 i ≡ b →
        cond (eqb edge.to.0 i) (read_on v edge n ∷ reads_over v edges i n) (reads_over v edges i n)
        ≡ cond (eqb edge.to.0 i) (read_on w edge n ∷ reads_over w edges i n) (reads_over w edges i n)
    go rest false test =
        subst (λ (b : Bool). cond b (read_on v edge n ∷ reads_over v edges i n) (reads_over v edges i n)
        ≡ cond b (read_on w edge n ∷ reads_over w edges i n) (reads_over w edges i n)) (sym test) rest
    go rest true test =
        let first : read_on v edge n ≡ read_on w edge n =
        ap (λ (o : Option Value). unwrap_or o (values.Int (pos 0))) (same 0 edge refl (test_equal edge.to.0 i test)) in
        subst (λ (b : Bool). cond b (read_on v edge n ∷ reads_over v edges i n) (reads_over v edges i n)
        ≡ cond b (read_on w edge n ∷ reads_over w edges i n) (reads_over w edges i n)) (sym test)
        (ap (λ (x : Value). x ∷ reads_over v edges i n) first ∙ ap (λ (l : List Value). read_on w edge n ∷ l) rest)

module _ (plan : PlanView) (is : IsPlan plan) (bodies : List CheckedBody) (rows : Rows) where
  -- the edge at a place
  stands : (e : ℕ) (edge : Edge) → slice_get plan.graph.edges e ≡ Some edge → (e < length plan.graph.edges) × (edge_at plan.graph e ≡ edge)
  stands e edge found = (slice_get_within plan.graph.edges e edge found, get_or_from_slice_get plan.graph.edges e edge no_edge found)

  -- where all earlier released jobs give the same, a job reads the same
  reads_by : (v w : JobValues) (i n : ℕ) →
      ((j m : ℕ) → j < length plan.graph.tasks → release_at plan j m < release_at plan i n → ((until : ℕ) → IsHorizonJob plan.graph until i n → IsHorizonJob plan.graph until j m) → v j m ≡ w j m) →
      (e : ℕ) (edge : Edge) → slice_get plan.graph.edges e ≡ Some edge → edge.to.0 ≡ i → value_on v edge n ≡ value_on w edge n
  reads_by v w i n same e edge found to =
      let at = stands e edge found in
      subst (λ (x : Edge). value_on v x n ≡ value_on w x n) at.1
      (let here : (edge_at plan.graph e).to.0 ≡ i = ap (λ (x : Edge). x.to.0) at.1 ∙ to in
      value_same v w (edge_at plan.graph e).from (operand_of (edge_at plan.graph e) n)
      (λ j m comes reads. same j m (source_task plan.graph is.graph e j at.0 comes)
      (subst (λ (x : ℕ). release_at plan j m < release_at plan x n) here (read_earlier plan is e j n m at.0 comes reads))
      (λ until job. read_of_horizon plan.graph is.graph until e j n m at.0 comes (subst (λ (x : ℕ). IsHorizonJob plan.graph until x n) (sym here) job) reads)))

  -- after enough rounds a job gives the same
  settled : (rounds i n : ℕ) → i < length plan.graph.tasks → release_at plan i n < rounds →
      values_after plan.graph bodies rows rounds i n ≡ values_after plan.graph bodies rows (suc rounds) i n
  settled zero i n inside early = absurd (omega (arith, early))
  settled (suc rounds) i n inside early =
      gives_same (task_at plan.graph i).kind rows (body_of_task bodies (task_at plan.graph i))
      (reads_of_job plan.graph (values_after plan.graph bodies rows rounds) i) (reads_of_job plan.graph (values_after plan.graph bodies rows (suc rounds)) i) n
      (λ m before. reads_same (values_after plan.graph bodies rows rounds) (values_after plan.graph bodies rows (suc rounds)) plan.graph.edges i m
      (reads_by (values_after plan.graph bodies rows rounds) (values_after plan.graph bodies rows (suc rounds)) i m
      (λ j k in_j less horizon. settled rounds j k in_j
      (let up = releases_rise plan is i m n inside before in omega (arith, less, up, early)))))

  pub values_exist : (until : ℕ) → AreJobValues plan.graph bodies rows until (job_values plan.graph bodies rows until)
  values_exist until = record { each = λ i n job. settled (until + plan.graph.hyper) i n job.task (released_soon plan is until i n job) }

  module _ (until : ℕ) (v w : JobValues) (of_v : AreJobValues plan.graph bodies rows until v) (of_w : AreJobValues plan.graph bodies rows until w) where
    agree_by : (bound i n : ℕ) → release_at plan i n < bound → IsHorizonJob plan.graph until i n → v i n ≡ w i n
    agree_by zero i n early job = absurd (omega (arith, early))
    agree_by (suc bound) i n early job =
        of_v.each i n job
        ∙ gives_same (task_at plan.graph i).kind rows (body_of_task bodies (task_at plan.graph i)) (reads_of_job plan.graph v i) (reads_of_job plan.graph w i) n
        (λ m before. reads_same v w plan.graph.edges i m
        (reads_by v w i m
        (λ j k in_j less horizon. agree_by bound j k
        (let up = releases_rise plan is i m n job.task before in omega (arith, less, up, early))
        (horizon until (earlier_horizon plan.graph until i m n before job)))))
        ∙ sym (of_w.each i n job)

    pub agree : (i n : ℕ) → IsHorizonJob plan.graph until i n → v i n ≡ w i n
    agree i n job = agree_by (suc (release_at plan i n)) i n (omega arith) job

    pub agree_on : (e n : ℕ) → e < length plan.graph.edges → IsHorizonJob plan.graph until (edge_at plan.graph e).to.0 n →
        value_on v (edge_at plan.graph e) n ≡ value_on w (edge_at plan.graph e) n
    agree_on e n inside job =
        reads_by v w (edge_at plan.graph e).to.0 n (λ j m in_j less horizon. agree j m (horizon until job)) e (edge_at plan.graph e)
        (slice_get-get_or plan.graph.edges e no_edge inside) refl

    pub agree_reads : (i n : ℕ) → IsHorizonJob plan.graph until i n → reads_of_job plan.graph v i n ≡ reads_of_job plan.graph w i n
    agree_reads i n job =
        reads_same v w plan.graph.edges i n (reads_by v w i n (λ j m in_j less horizon. agree j m (horizon until job)))
