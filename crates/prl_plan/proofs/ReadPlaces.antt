-- Where a job reads an edge, and that it writes both halves.
use Rattle.prl_base.proofs.Standard.{◌≡◌, ◌+◌, ◌<◌, ◌++◌, ℕ, zero, suc, Bool, true, false, List, [], ◌∷◌, length, take, Some, refl, sym, ◌∙◌, ap, subst, arith, cond, eqb, length-append, IsSome}
use Rattle.prl_base.proofs.Standard.{slice_get, slice_get-get_or}
use Rattle.prl_plan.specs.Vocabulary.{Action, Edge, operand_of, ComesFrom, PlanView, edge_at, no_edge, place_on, cell_of, IsHalfOf, reading, reads_of, writes_of, actions_of, reads_before}
use Rattle.prl_plan.specs.declared.events.Action.TheVariants as actions
use Rattle.prl_plan.proofs.ActionPlaces.{write_stands, half_stands}
use Rattle.prl_plan.proofs.UsedLaws.{test_same}

get_first : (xs ys : List Action) (k : ℕ) (x : Action) → slice_get xs k ≡ Some x → slice_get (xs ++ ys) k ≡ Some x
get_first [] ys k x h = cc
get_first (y ∷ xs) ys zero x h = h
get_first (y ∷ xs) ys (suc k) x h = get_first xs ys k x h

get_second : (xs ys : List Action) (p j : ℕ) (x : Action) → p ≡ length xs + j → slice_get ys j ≡ Some x → slice_get (xs ++ ys) p ≡ Some x
get_second [] ys p j x at h = subst (λ (k : ℕ). slice_get ys k ≡ Some x) (let e : j ≡ p = omega (arith, at) in e) h
get_second (y ∷ xs) ys zero j x at h = absurd (omega (arith, at))
get_second (y ∷ xs) ys (suc p) j x at h = get_second xs ys p j x (omega (arith, at)) h

get_if : (b : Bool) → b ≡ true → (xs : List Action) (k : ℕ) (x : Action) → slice_get xs k ≡ Some x → slice_get (cond b xs []) k ≡ Some x
get_if true is xs k x h = h
get_if false is xs k x h = cc

module _ (plan : PlanView) (i n : ℕ) where
  reads_split : (e : ℕ) (edges : List Edge) (k : ℕ) (edge : Edge) → slice_get edges k ≡ Some edge → edge.to.0 ≡ i → (j p : ℕ) (x : Action) →
      slice_get (reading plan (e + k) edge (operand_of edge n)) j ≡ Some x → p ≡ length (reads_of plan i n e (take k edges)) + j →
      slice_get (reads_of plan i n e edges) p ≡ Some x
  reads_split e [] k edge is to j p x h at = cc
  reads_split e (y ∷ edges) zero edge is to j p x h at =
      let one : y ≡ edge = cc in
      get_first (cond (eqb y.to.0 i) (reading plan e y (operand_of y n)) []) (reads_of plan i n (e + 1) edges) p x
      (get_if (eqb y.to.0 i) (test_same y.to.0 i (ap (λ (z : Edge). z.to.0) one ∙ to)) (reading plan e y (operand_of y n)) p x
      (subst (λ (q : ℕ). slice_get (reading plan e y (operand_of y n)) q ≡ Some x) (let z : j ≡ p = omega (arith, at) in z)
      (subst (λ (z : Edge). slice_get (reading plan e z (operand_of z n)) j ≡ Some x) (sym one)
      (subst (λ (f : ℕ). slice_get (reading plan f edge (operand_of edge n)) j ≡ Some x) (let z : e + 0 ≡ e = omega arith in z) h))))
  reads_split e (y ∷ edges) (suc k) edge is to j p x h at =
      let both = length-append (cond (eqb y.to.0 i) (reading plan e y (operand_of y n)) []) (reads_of plan i n (e + 1) (take k edges)) in
      get_second (cond (eqb y.to.0 i) (reading plan e y (operand_of y n)) []) (reads_of plan i n (e + 1) edges) p
      (length (reads_of plan i n (e + 1) (take k edges)) + j) x (omega (arith, at, both))
      (reads_split (e + 1) edges k edge is to j (length (reads_of plan i n (e + 1) (take k edges)) + j) x
      (subst (λ (f : ℕ). slice_get (reading plan f edge (operand_of edge n)) j ≡ Some x) (let z : e + suc k ≡ e + 1 + k = omega arith in z) h) refl)

-- the reads of an edge stand after those of the edges before it
pub reads_at_places : (plan : PlanView) (e n j : ℕ) (x : Action) → e < length plan.graph.edges →
    slice_get (reading plan e (edge_at plan.graph e) (operand_of (edge_at plan.graph e) n)) j ≡ Some x →
    slice_get (actions_of plan (edge_at plan.graph e).to.0 n) (reads_before plan (edge_at plan.graph e).to.0 n e + j) ≡ Some x
reads_at_places plan e n j x inside h =
    let i : ℕ = (edge_at plan.graph e).to.0 in
    let at : reads_before plan (edge_at plan.graph e).to.0 n e + j ≡ reads_before plan (edge_at plan.graph e).to.0 n e + j = refl in
    get_first (reads_of plan i n 0 plan.graph.edges ++ writes_of plan i n 0 plan.graph.edges) (actions.End ∷ []) (reads_before plan i n e + j) x
    (get_first (reads_of plan i n 0 plan.graph.edges) (writes_of plan i n 0 plan.graph.edges) (reads_before plan i n e + j) x
    (reads_split plan (edge_at plan.graph e).to.0 n 0 plan.graph.edges e (edge_at plan.graph e) (slice_get-get_or plan.graph.edges e no_edge inside) refl
    j (reads_before plan (edge_at plan.graph e).to.0 n e + j) x
    (subst (λ (f : ℕ). slice_get (reading plan f (edge_at plan.graph e) (operand_of (edge_at plan.graph e) n)) j ≡ Some x) (let z : e ≡ 0 + e = omega arith in z) h) at))

-- to each edge from its task whose instance is used, a job writes each half
pub writes_at_places : (plan : PlanView) (e i n slot : ℕ) → e < length plan.graph.edges → ComesFrom (edge_at plan.graph e).from i → IsSome (place_on plan e n) →
    IsHalfOf (cell_of plan e n) slot →
    (place : ℕ) × (slice_get (actions_of plan i n) place ≡ Some (actions.Write (record { 0 = e }) n (record { 0 = slot })))
writes_at_places plan e i n slot inside comes used half =
    let s = write_stands plan i n e (edge_at plan.graph e) (slice_get-get_or plan.graph.edges e no_edge inside) comes used
    (actions.Write (record { 0 = e }) n (record { 0 = slot })) (half_stands plan i n e slot half) in
    (s.place, slice_get-get_or (actions_of plan i n) s.place actions.End s.inside ∙ ap (λ (a : Action). Some a) s.is)
