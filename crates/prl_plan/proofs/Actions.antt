-- The actions of a job are what the definitions of operands and cells say.
use Rattle.prl_base.proofs.Standard.{◌≡◌, ◌+◌, ◌<◌, ◌++◌, ℕ, zero, suc, Bool, true, false, List, [], ◌∷◌, length, get_or, inl, inr, refl, sym, ◌∙◌, ap, subst, arith, cond, eqb, is_some, nat_tests}
use Rattle.prl_plan.specs.Vocabulary.{Action, Edge, Producer, Operand, operand_of, ComesFrom, PlanView, edge_at, no_edge, place_on, cell_of, low, high, both_writes, reading, reads_of, writing}
use Rattle.prl_plan.specs.Vocabulary.{writes_of, actions_of, IsActionOf}
use Rattle.prl_plan.specs.declared.events.Action.TheVariants as actions
use Rattle.prl_plan.specs.declared.graphs.Producer.TheVariants as producers
use Rattle.prl_plan.specs.declared.walks.Operand.TheVariants as operands

-- what holds of the end and of each element of two lists holds of what stands in one after the other
each_append : (P : Action → Type 0) → (xs ys : List Action) → P actions.End → ((k : ℕ) → P (get_or xs k actions.End)) → ((k : ℕ) → P (get_or ys k actions.End)) →
    (k : ℕ) → P (get_or (xs ++ ys) k actions.End)
each_append P [] ys end first second k = second k
each_append P (x ∷ xs) ys end first second zero = first 0
each_append P (x ∷ xs) ys end first second (suc k) = each_append P xs ys end (λ n. first (suc n)) second k

each_two : (P : Action → Type 0) → (x y : Action) → P actions.End → P x → P y → (k : ℕ) → P (get_or (x ∷ y ∷ []) k actions.End)
each_two P x y end is is' zero = is
each_two P x y end is is' (suc zero) = is'
each_two P x y end is is' (suc (suc k)) = end

each_one : (P : Action → Type 0) → (x : Action) → P actions.End → P x → (k : ℕ) → P (get_or (x ∷ []) k actions.End)
each_one P x end is zero = is
each_one P x end is (suc k) = end

each_none : (P : Action → Type 0) → P actions.End → (k : ℕ) → P (get_or [] k actions.End)
each_none P end k = end

-- what holds of the elements of a list where the test is true holds of those of the list under the test
each_if : (P : Action → Type 0) → (b : Bool) (xs : List Action) → P actions.End → (b ≡ true → (k : ℕ) → P (get_or xs k actions.End)) →
    (k : ℕ) → P (get_or (cond b xs []) k actions.End)
each_if P true xs end is k = is refl k
each_if P false xs end is k = end

equal : (x y : ℕ) → eqb x y ≡ true → x ≡ y
equal x y h = grind (arith, nat_tests)

module _ (plan : PlanView) (i n : ℕ) where
  -- from edge e on, the list of edges is this one
  abbrev Stands : ℕ → List Edge → Type 0
  Stands e edges = (k : ℕ) → k < length edges → (e + k < length plan.graph.edges) × (edge_at plan.graph (e + k) ≡ get_or edges k no_edge)

  reading_fits : (e : ℕ) (edge : Edge) → e < length plan.graph.edges → edge_at plan.graph e ≡ edge → edge.to.0 ≡ i → (operand : Operand) →
      operand_of edge n ≡ operand → (k : ℕ) → IsActionOf plan i n (get_or (reading plan e edge operand) k actions.End)
  reading_fits e edge inside is to (operands.Const c) reads k =
      each_one (IsActionOf plan i n) (actions.ReadConst edge.port c) tt
      (e, inside, ap (λ (x : Edge). x.to.0) is ∙ to, ap (λ (x : Edge). x.port) is, ap (λ (x : Edge). operand_of x n) is ∙ reads) k
  reading_fits e edge inside is to (operands.From m) reads k =
      each_two (IsActionOf plan i n) (actions.Read edge.port (record { 0 = e }) m (record { 0 = low (cell_of plan e m) }))
      (actions.Read edge.port (record { 0 = e }) m (record { 0 = high (cell_of plan e m) })) tt
      (inside, ap (λ (x : Edge). x.to.0) is ∙ to, ap (λ (x : Edge). x.port) is, ap (λ (x : Edge). operand_of x n) is ∙ reads, inl refl)
      (inside, ap (λ (x : Edge). x.to.0) is ∙ to, ap (λ (x : Edge). x.port) is, ap (λ (x : Edge). operand_of x n) is ∙ reads, inr refl) k

  here : (e : ℕ) (edge : Edge) (edges : List Edge) → Stands e (edge ∷ edges) → (e < length plan.graph.edges) × (edge_at plan.graph e ≡ edge)
  here e edge edges stands =
      let first = stands 0 (omega arith) in
      let same : e + 0 ≡ e = omega arith in
      (omega (arith, first.0, same), ap (λ (x : ℕ). edge_at plan.graph x) (sym same) ∙ first.1)

  past : (e : ℕ) (edge : Edge) (edges : List Edge) → Stands e (edge ∷ edges) → Stands (e + 1) edges
  past e edge edges stands k h =
      let next = stands (suc k) (omega arith) in
      let same : e + suc k ≡ e + 1 + k = omega arith in
      (omega (arith, next.0, same), ap (λ (x : ℕ). edge_at plan.graph x) (sym same) ∙ next.1)

  reads_fit : (e : ℕ) (edges : List Edge) → Stands e edges → (k : ℕ) → IsActionOf plan i n (get_or (reads_of plan i n e edges) k actions.End)
  reads_fit e [] stands k = each_none (IsActionOf plan i n) tt k
  reads_fit e (edge ∷ edges) stands k =
      each_append (IsActionOf plan i n) (cond (eqb edge.to.0 i) (reading plan e edge (operand_of edge n)) []) (reads_of plan i n (e + 1) edges) tt
      (each_if (IsActionOf plan i n) (eqb edge.to.0 i) (reading plan e edge (operand_of edge n)) tt
      (λ test. reading_fits e edge (here e edge edges stands).0 (here e edge edges stands).1 (equal edge.to.0 i test) (operand_of edge n) refl))
      (reads_fit (e + 1) edges (past e edge edges stands)) k

  writing_fits : (e : ℕ) → e < length plan.graph.edges → (from : Producer) → (edge_at plan.graph e).from ≡ from → (k : ℕ) →
      IsActionOf plan i n (get_or (writing plan i n e from) k actions.End)
  writing_fits e inside (producers.Constant value) is k = each_none (IsActionOf plan i n) tt k
  writing_fits e inside (producers.Port task out) is k =
      each_if (IsActionOf plan i n) (eqb task.0 i)
      (cond (is_some (place_on plan e n)) (both_writes plan e n) []) tt
      (λ own. each_if (IsActionOf plan i n) (is_some (place_on plan e n)) (both_writes plan e n) tt
      (λ used. each_two (IsActionOf plan i n) (actions.Write (record { 0 = e }) n (record { 0 = low (cell_of plan e n) }))
      (actions.Write (record { 0 = e }) n (record { 0 = high (cell_of plan e n) })) tt
      (inside, subst (λ (p : Producer). ComesFrom p i) (sym is) (equal task.0 i own), refl, used, inl refl)
      (inside, subst (λ (p : Producer). ComesFrom p i) (sym is) (equal task.0 i own), refl, used, inr refl))) k

  writes_fit : (e : ℕ) (edges : List Edge) → Stands e edges → (k : ℕ) → IsActionOf plan i n (get_or (writes_of plan i n e edges) k actions.End)
  writes_fit e [] stands k = each_none (IsActionOf plan i n) tt k
  writes_fit e (edge ∷ edges) stands k =
      each_append (IsActionOf plan i n) (writing plan i n e edge.from) (writes_of plan i n (e + 1) edges) tt
      (writing_fits e (here e edge edges stands).0 edge.from (ap (λ (x : Edge). x.from) (here e edge edges stands).1))
      (writes_fit (e + 1) edges (past e edge edges stands)) k

  pub actions_fit : (k : ℕ) → IsActionOf plan i n (get_or (actions_of plan i n) k actions.End)
  actions_fit k =
      let all : Stands 0 plan.graph.edges = λ j h. (omega (arith, h), ap (λ (x : ℕ). edge_at plan.graph x) (let z : 0 + j ≡ j = omega arith in z)) in
      each_append (IsActionOf plan i n) (reads_of plan i n 0 plan.graph.edges ++ writes_of plan i n 0 plan.graph.edges) (actions.End ∷ []) tt
      (each_append (IsActionOf plan i n) (reads_of plan i n 0 plan.graph.edges) (writes_of plan i n 0 plan.graph.edges) tt
      (reads_fit 0 plan.graph.edges all) (writes_fit 0 plan.graph.edges all))
      (each_one (IsActionOf plan i n) actions.End tt tt) k
