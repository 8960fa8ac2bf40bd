-- Values follow the samples that feed them.
use Rattle.prl_base.proofs.Standard.{◌≡◌, ◌<◌, ◌≤◌, ◌⊎◌, inl, inr, ℕ, zero, suc, Bool, true, false, List, [], ◌∷◌, length, Option, Some, None, refl, sym, ◌∙◌, ap, subst, arith, eqb, cond, pos, slice_get, unwrap_or, nat_tests}
use Rattle.prl_base.specs.declared.values.Value.{Value}
use Rattle.prl_base.specs.declared.values.Value.TheVariants as values
use Rattle.prl_body.specs.Bodies.{body_step}
use Rattle.prl_body.specs.declared.bodies.CheckedBody.{CheckedBody}
use Rattle.prl_flow.specs.Vocabulary.{registers_before}
use Rattle.prl_flow.specs.Rows.{Rows, rows_of}
use Rattle.prl_plan.specs.Vocabulary.{task_at, operand_of, ComesFrom, IsWellFormed}
use Rattle.prl_plan.specs.declared.graphs.Edge.{Edge}
use Rattle.prl_plan.specs.declared.graphs.Kind.{Kind}
use Rattle.prl_plan.specs.declared.graphs.Producer.{Producer}
use Rattle.prl_plan.specs.declared.graphs.TaskGraph.{TaskGraph}
use Rattle.prl_plan.specs.declared.walks.Operand.{Operand}
use Rattle.prl_plan.specs.declared.graphs.Kind.TheVariants as kinds
use Rattle.prl_plan.specs.declared.graphs.Producer.TheVariants as producers
use Rattle.prl_plan.specs.declared.walks.Operand.TheVariants as operands
use Rattle.prl_values.specs.JobValues.{JobValues, values_after, gives, at_most_one, value_from, value_on, read_on, reads_over, reads_of_job, body_of_task}
use Rattle.prl_ages.specs.Reaching.{Takes, Reaches, IsFreshest}
use Rattle.prl_influence.specs.Influence.{Feeds, AgreeOnFeeding, AgreeUpToFreshest}
use Rattle.prl_influence.specs.Influence as feeding
use Rattle.prl_influence.proofs.Feeding.{kept_on, none_fresher, feeds_reaches, feeds_inside}

test_equal : (x y : ℕ) → eqb x y ≡ true → x ≡ y
test_equal x y h = grind (arith, nat_tests)

-- registers depend on the inputs before the step
registers_same : (body : CheckedBody) (a b : ℕ → List Value) (n : ℕ) → ((m : ℕ) → m < n → a m ≡ b m) → registers_before body a n ≡ registers_before body b n
registers_same body a b zero same = refl
registers_same body a b (suc n) same =
    ap (λ (x : List Value). (body_step body x (registers_before body a n)).registers) (same n (omega arith))
    ∙ ap (λ (r : List Value). (body_step body (b n) r).registers) (registers_same body a b n (λ m below. same m (omega (arith, below))))

-- what a job gives depends on its sample, or on what the jobs of its task read up to it
gives_same : (kind : Kind) (rows other : Rows) (body : Option CheckedBody) (a b : ℕ → List Value) (n : ℕ) →
    ((k : ℕ) → kind ≡ kinds.Sensor k → slice_get (rows_of rows k) n ≡ slice_get (rows_of other k) n) → ((m : ℕ) → m ≤ n → a m ≡ b m) →
    gives kind rows body a n ≡ gives kind other body b n
gives_same (kinds.Sensor k) rows other body a b n sample same = ap at_most_one (sample k refl)
gives_same (kinds.Node k) rows other (Some body) a b n sample same =
    ap (λ (x : List Value). (body_step body x (registers_before body a n)).outputs) (same n (omega arith))
    ∙ ap (λ (r : List Value). (body_step body (b n) r).outputs) (registers_same body a b n (λ m below. same m (omega (arith, below))))
gives_same (kinds.Node k) rows other None a b n sample same = refl
gives_same (kinds.Actuator k) rows other body a b n sample same = same n (omega arith)

-- what is read depends on the producer's job alone
value_same : (v w : JobValues) (from : Producer) (o : Operand) → ((i m : ℕ) → ComesFrom from i → o ≡ operands.From m → v i m ≡ w i m) → value_from v from o ≡ value_from w from o
value_same v w from (operands.Const c) same = refl
value_same v w (producers.Port task out) (operands.From m) same = ap (λ (l : List Value). slice_get l out) (same task.0 m refl refl)
value_same v w (producers.Constant value) (operands.From m) same = refl

reads_same : (v w : JobValues) (edges : List Edge) (i n : ℕ) →
    ((k : ℕ) (edge : Edge) → slice_get edges k ≡ Some edge → edge.to.0 ≡ i → value_on v edge n ≡ value_on w edge n) → reads_over v edges i n ≡ reads_over w edges i n
reads_same v w [] i n same = refl
reads_same v w (edge ∷ edges) i n same = go (reads_same v w edges i n (λ k x at to. same (suc k) x at to)) (eqb edge.to.0 i) refl
  where
    go : reads_over v edges i n ≡ reads_over w edges i n → (b : Bool) → eqb edge.to.0 i ≡ b →
        cond (eqb edge.to.0 i) (read_on v edge n ∷ reads_over v edges i n) (reads_over v edges i n)
        ≡ cond (eqb edge.to.0 i) (read_on w edge n ∷ reads_over w edges i n) (reads_over w edges i n)
    go rest false test =
        subst (λ (b : Bool). cond b (read_on v edge n ∷ reads_over v edges i n) (reads_over v edges i n)
        ≡ cond b (read_on w edge n ∷ reads_over w edges i n) (reads_over w edges i n)) (sym test) rest
    go rest true test =
        let first : read_on v edge n ≡ read_on w edge n =
        ap (λ (o : Option Value). unwrap_or o (values.Int (pos 0))) (same 0 edge refl (test_equal edge.to.0 i test)) in
        subst (λ (b : Bool). cond b (read_on v edge n ∷ reads_over v edges i n) (reads_over v edges i n)
        ≡ cond b (read_on w edge n ∷ reads_over w edges i n) (reads_over w edges i n)) (sym test)
        (ap (λ (x : Value). x ∷ reads_over v edges i n) first ∙ ap (λ (l : List Value). read_on w edge n ∷ l) rest)

module _ (graph : TaskGraph) (bodies : List CheckedBody) (rows other : Rows) where
  -- where what earlier jobs give is the same after some rounds, a job reads the same
  reads_agree : (v w : JobValues) (i n m : ℕ) → m ≤ n → AgreeOnFeeding graph rows other i n →
      ((t j : ℕ) → AgreeOnFeeding graph rows other t j → v t j ≡ w t j) → reads_of_job graph v i m ≡ reads_of_job graph w i m
  reads_agree v w i n m below agree known =
      reads_same v w graph.edges i m (λ e edge at to. value_same v w edge.from (operand_of edge m) (λ t j comes reads.
      (let takes : Takes graph [] i m t j = record { number = e; edge = edge; at = at; to = to; from = comes; along = refl; reads = reads } in
      known t j (λ s k x kind feeds. agree s k x kind (kept_on graph s x i m n (feeding.through i m t j takes feeds) below)))))

  pub values_same : (rounds i n : ℕ) → AgreeOnFeeding graph rows other i n → values_after graph bodies rows rounds i n ≡ values_after graph bodies other rounds i n
  values_same zero i n agree = refl
  values_same (suc rounds) i n agree =
      gives_same (task_at graph i).kind rows other (body_of_task bodies (task_at graph i))
      (reads_of_job graph (values_after graph bodies rows rounds) i) (reads_of_job graph (values_after graph bodies other rounds) i) n
      (λ k kind. agree i k n kind (feeding.itself i n refl refl))
      (λ m below. reads_agree (values_after graph bodies rows rounds) (values_after graph bodies other rounds) i n m below agree (values_same rounds))

-- inputs that agree up to the freshest agree on what feeds
pub agree_on_feeding : (graph : TaskGraph) → IsWellFormed graph → (rows other : Rows) (i n : ℕ) → i < length graph.tasks →
    ((s : ℕ) → s < length graph.tasks → ((m : ℕ) × IsFreshest graph [] s m i n) ⊎ ((m : ℕ) → Reaches graph [] s m i n → ⊥)) → AgreeUpToFreshest graph rows other i n → AgreeOnFeeding graph rows other i n
agree_on_feeding graph good rows other i n inside each agree s k m kind feeds = go (each s (feeds_inside graph good s m i n feeds inside))
  where
    go : ((f : ℕ) × IsFreshest graph [] s f i n) ⊎ ((f : ℕ) → Reaches graph [] s f i n → ⊥) → slice_get (rows_of rows k) m ≡ slice_get (rows_of other k) m
    go (inl fresh) = agree s k fresh.0 m kind fresh.1 (none_fresher graph good s m i n fresh.0 feeds fresh.1)
    go (inr never) = (let up = feeds_reaches graph good s m i n feeds in absurd (never up.0 up.2))
