-- What a job reads stands by port.
use Rattle.prl_base.proofs.Standard.{◌≡◌, ◌+◌, ◌<◌, ℕ, zero, suc, Bool, true, false, List, [], ◌∷◌, length, Some, inl, inr, refl, sym, ◌∙◌, ap, subst, arith, cond, eqb, slice_get, cases_eq}
use Rattle.prl_base.proofs.Standard.{slice_get_within}
use Rattle.prl_plan.specs.Graphs.{PortsFollow, AreInOrder}
use Rattle.prl_plan.specs.declared.graphs.Edge.{Edge}
use Rattle.prl_plan.proofs.UsedLaws.{test_same, test_differs}
use Rattle.prl_values.specs.Vocabulary.{port_types, JobValues, read_on, reads_over}

-- as many values as ports
pub reads_counted : (v : JobValues) (edges : List Edge) (i n : ℕ) → length (reads_over v edges i n) ≡ length (port_types edges i)
reads_counted v [] i n = refl
reads_counted v (edge ∷ edges) i n = go (reads_counted v edges i n) (eqb edge.to.0 i)
  where
    go : length (reads_over v edges i n) ≡ length (port_types edges i) → (b : Bool) →
        length (cond b (read_on v edge n ∷ reads_over v edges i n) (reads_over v edges i n)) ≡ length (cond b (edge.ty ∷ port_types edges i) (port_types edges i))
    go rest true = ap suc rest
    go rest false = rest

module _ (v : JobValues) (i n : ℕ) where
  -- each edge to the task, from port q on, has its value at its port
  abbrev Found : ℕ → List Edge → Type 0
  Found q edges = (e : ℕ) (edge : Edge) → slice_get edges e ≡ Some edge → edge.to.0 ≡ i →
      (k : ℕ) × (edge.port ≡ q + k) × (slice_get (reads_over v edges i n) k ≡ Some (read_on v edge n))

  one_edge : (x : Edge) (edges : List Edge) (q : ℕ) → (x.to.0 ≡ i → q ≡ x.port) → (x.to.0 < i → q ≡ 0) →
      ((r : ℕ) → (x.to.0 ≡ i → r ≡ x.port + 1) → (x.to.0 < i → r ≡ 0) → Found r edges) → Found q (x ∷ edges)
  one_edge x edges q same less rest =
      elim (cases_eq x.to.0 i) [
        | inl here ↦ λ e edge stands to.
            (subst (λ (b : Bool). (k : ℕ) × (edge.port ≡ q + k) × (slice_get (cond b (read_on v x n ∷ reads_over v edges i n) (reads_over v edges i n)) k ≡ Some (read_on v edge n)))
            (sym (test_same x.to.0 i here)) (first here e edge stands to))
        | inr other ↦ λ e edge stands to.
            (subst (λ (b : Bool). (k : ℕ) × (edge.port ≡ q + k) × (slice_get (cond b (read_on v x n ∷ reads_over v edges i n) (reads_over v edges i n)) k ≡ Some (read_on v edge n)))
            (sym (test_differs x.to.0 i other)) (second other e edge stands to))
      ]
    where
      first : x.to.0 ≡ i → (e : ℕ) (edge : Edge) → slice_get (x ∷ edges) e ≡ Some edge → edge.to.0 ≡ i →
          (k : ℕ) × (edge.port ≡ q + k) × (slice_get (read_on v x n ∷ reads_over v edges i n) k ≡ Some (read_on v edge n))
      first here zero edge stands to =
          let is : x ≡ edge = cc in
          let p = same here in
          let port : x.port ≡ edge.port = ap (λ (y : Edge). y.port) is in
          (0, omega (arith, p, port), ap (λ (y : Edge). Some (read_on v y n)) is)
      first here (suc e) edge stands to =
          let found = rest (q + 1) (λ h. (let p = same here in omega (arith, p))) (λ h. absurd (omega (arith, h, here))) e edge stands to in
          (suc found.0, (let p = found.1 in omega (arith, p)), found.2)

      second : (x.to.0 ≡ i → ⊥) → (e : ℕ) (edge : Edge) → slice_get (x ∷ edges) e ≡ Some edge → edge.to.0 ≡ i →
          (k : ℕ) × (edge.port ≡ q + k) × (slice_get (reads_over v edges i n) k ≡ Some (read_on v edge n))
      second other zero edge stands to = absurd (let is : x ≡ edge = cc in other (ap (λ (y : Edge). y.to.0) is ∙ to))
      second other (suc e) edge stands to = rest q (λ h. absurd (other h)) less e edge stands to

  rest_edges : (x : Edge) (edges : List Edge) → PortsFollow x.to.0 x.port edges → (q : ℕ) → (x.to.0 ≡ i → q ≡ x.port + 1) → (x.to.0 < i → q ≡ 0) → Found q edges
  rest_edges x [] follow q same less = λ e edge stands to. absurd (nothing e edge stands)
    where
      nothing : (e : ℕ) (edge : Edge) → slice_get [] e ≡ Some edge → ⊥
      nothing zero edge h = cc
      nothing (suc e) edge h = cc
  rest_edges x (y ∷ edges) follow q same less =
      one_edge y edges q
      (λ at. elim follow.0 [
        | inl next ↦ omega (arith, same (omega (arith, next.0, at)), next.1)
        | inr later ↦ omega (arith, less (omega (arith, later.0, at)), later.1)
      ])
      (λ under. elim follow.0 [
        | inl next ↦ less (omega (arith, next.0, under))
        | inr later ↦ less (omega (arith, later.0, under))
      ])
      (λ r. rest_edges y edges follow.1 r)

  all_edges : (edges : List Edge) → AreInOrder edges → Found 0 edges
  all_edges [] order = λ e edge stands to. absurd (nothing e edge stands)
    where
      nothing : (e : ℕ) (edge : Edge) → slice_get [] e ≡ Some edge → ⊥
      nothing zero edge h = cc
      nothing (suc e) edge h = cc
  all_edges (x ∷ edges) order = one_edge x edges 0 (λ at. sym order.0) (λ under. refl) (λ r. rest_edges x edges order.1 r)

  -- what is read on an edge stands at the edge's port
  pub read_at_port : (edges : List Edge) → AreInOrder edges → (e : ℕ) (edge : Edge) → slice_get edges e ≡ Some edge → edge.to.0 ≡ i →
      slice_get (reads_over v edges i n) edge.port ≡ Some (read_on v edge n)
  read_at_port edges order e edge stands to =
      let found = all_edges edges order e edge stands to in
      let port : edge.port ≡ found.0 = omega (arith, found.1) in
      ap (slice_get (reads_over v edges i n)) port ∙ found.2

  -- a task with an edge has a port
  pub edge_has_port : (edges : List Edge) → AreInOrder edges → (e : ℕ) (edge : Edge) → slice_get edges e ≡ Some edge → edge.to.0 ≡ i →
      edge.port < length (port_types edges i)
  edge_has_port edges order e edge stands to =
      omega (arith, slice_get_within (reads_over v edges i n) edge.port (read_on v edge n) (read_at_port edges order e edge stands to), reads_counted v edges i n)

-- lists with the same elements
pub same_lists : {A : Type 0} (xs ys : List A) → length xs ≡ length ys → ((k : ℕ) → k < length xs → slice_get xs k ≡ slice_get ys k) → xs ≡ ys
same_lists [] [] long each = refl
same_lists [] (y ∷ ys) long each = absurd (omega (arith, long))
same_lists (x ∷ xs) [] long each = absurd (omega (arith, long))
same_lists (x ∷ xs) (y ∷ ys) long each =
    let first : Some x ≡ Some y = each 0 (omega arith) in
    let head : x ≡ y = cc in
    ap (λ z. z ∷ xs) head ∙ ap (λ l. y ∷ l) (same_lists xs ys (omega (arith, long)) (λ k below. each (suc k) (omega (arith, below))))
