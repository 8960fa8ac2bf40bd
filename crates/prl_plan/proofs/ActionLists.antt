-- The actions of a job, edge by edge: those on the first edges stand first.
use Rattle.std.proofs.Common.{◌≡◌, ◌+◌, ◌<◌, ◌≤◌, ◌++◌, ℕ, zero, suc, Bool, List, [], ◌∷◌, Some, length, length-append, take, drop, get_or, refl, sym, ◌∙◌, ap, arith, append_assoc, append-nil}
use Rattle.std.specs.Prelude.{if◌then◌else◌, ◌==◌, is_some, slice_get}
use Rattle.std.proofs.lemmas.List.{take-append-drop, length-take-le}
use Rattle.prl_plan.specs.Vocabulary.{Action, Edge, Producer, operand_of, ComesFrom, PlanView, edge_at, no_edge, place_on, both_writes, reading, reads_of, writing, writes_of, actions_of}
use Rattle.prl_plan.specs.declared.events.Action.TheVariants as actions
use Rattle.prl_plan.specs.declared.graphs.Producer.TheVariants as producers
use Rattle.prl_plan.proofs.Places.{get_left, get_right}
use Rattle.prl_plan.proofs.UsedLaws.{test_same, test_differs}

-- one edge more
split_at : (edges : List Edge) (e : ℕ) (d : Edge) → e < length edges → take (e + 1) edges ≡ take e edges ++ get_or edges e d ∷ []
split_at [] e d inside = absurd (omega (arith, inside))
split_at (x ∷ edges) zero d inside = refl
split_at (x ∷ edges) (suc e) d inside =
    ap (λ (k : ℕ). take k (x ∷ edges)) (let s : suc e + 1 ≡ suc (e + 1) = omega arith in s) ∙ ap (λ (l : List Edge). x ∷ l) (split_at edges e d (omega (arith, inside)))

-- a list that is made edge by edge
module _ (part : ℕ → Edge → List Action) (made : ℕ → List Edge → List Action) (none : (s : ℕ) → made s [] ≡ []) (more : (s : ℕ) (x : Edge) (xs : List Edge) → made s (x ∷ xs) ≡ part s x ++ made (s + 1) xs) where
  made_both : (s : ℕ) (xs ys : List Edge) → made s (xs ++ ys) ≡ made s xs ++ made (s + length xs) ys
  made_both s [] ys = ap (λ (k : ℕ). made k ys) (let e : s ≡ s + 0 = omega arith in e) ∙ ap (λ (l : List Action). l ++ made (s + 0) ys) (sym (none s))
  made_both s (x ∷ xs) ys =
      more s x (xs ++ ys)
      ∙ ap (λ (l : List Action). part s x ++ l) (made_both (s + 1) xs ys ∙ ap (λ (k : ℕ). made (s + 1) xs ++ made k ys) (let e : s + 1 + length xs ≡ s + suc (length xs) = omega arith in e))
      ∙ sym (append_assoc (part s x) (made (s + 1) xs) (made (s + suc (length xs)) ys)) ∙ ap (λ (l : List Action). l ++ made (s + suc (length xs)) ys) (sym (more s x xs))

  module _ (edges : List Edge) (e : ℕ) (inside : e < length edges) where
    made_next : made 0 (take (e + 1) edges) ≡ made 0 (take e edges) ++ part e (get_or edges e no_edge)
    made_next =
        ap (λ (l : List Edge). made 0 l) (split_at edges e no_edge inside) ∙ made_both 0 (take e edges) (get_or edges e no_edge ∷ [])
        ∙ ap (λ (k : ℕ). made 0 (take e edges) ++ made k (get_or edges e no_edge ∷ [])) (let s : 0 + length (take e edges) ≡ e = omega (arith, length-take-le e edges (omega (arith, inside))) in s)
        ∙ ap (λ (l : List Action). made 0 (take e edges) ++ l) (more e (get_or edges e no_edge) [] ∙ ap (λ (l : List Action). part e (get_or edges e no_edge) ++ l) (none (e + 1)) ∙ append-nil (part e (get_or edges e no_edge)))

    found_in : (place left : ℕ) (a : Action) → place ≡ length (made 0 (take e edges)) + left → slice_get (part e (get_or edges e no_edge)) left ≡ Some a → slice_get (made 0 edges) place ≡ Some a
    found_in place left a at got =
        ap (λ (l : List Edge). slice_get (made 0 l) place) (sym (take-append-drop (e + 1) edges))
        ∙ ap (λ (l : List Action). slice_get l place) (made_both 0 (take (e + 1) edges) (drop (e + 1) edges))
        ∙ get_left (made 0 (take (e + 1) edges)) (made (0 + length (take (e + 1) edges)) (drop (e + 1) edges)) place a
        (ap (λ (l : List Action). slice_get l place) made_next ∙ get_right (made 0 (take e edges)) (part e (get_or edges e no_edge)) place left at ∙ got)

    made_longer : length (made 0 (take (e + 1) edges)) ≡ length (made 0 (take e edges)) + length (part e (get_or edges e no_edge))
    made_longer = ap length made_next ∙ length-append (made 0 (take e edges)) (part e (get_or edges e no_edge))

module _ (plan : PlanView) (i n : ℕ) where
  abbrev read_part : ℕ → Edge → List Action
  read_part e edge = if edge.to.0 == i then reading plan e edge (operand_of edge n) else []

  abbrev write_part : ℕ → Edge → List Action
  write_part e edge = writing plan i n e edge.from

  module _ (e : ℕ) (inside : e < length plan.graph.edges) where
    reads_longer : length (reads_of plan i n 0 (take (e + 1) plan.graph.edges)) ≡ length (reads_of plan i n 0 (take e plan.graph.edges)) + length (read_part e (edge_at plan.graph e))
    reads_longer = made_longer read_part (reads_of plan i n) (λ s. refl) (λ s x xs. refl) plan.graph.edges e inside

    writes_longer : length (writes_of plan i n 0 (take (e + 1) plan.graph.edges)) ≡ length (writes_of plan i n 0 (take e plan.graph.edges)) + length (write_part e (edge_at plan.graph e))
    writes_longer = made_longer write_part (writes_of plan i n) (λ s. refl) (λ s x xs. refl) plan.graph.edges e inside

    read_here : (edge_at plan.graph e).to.0 ≡ i → read_part e (edge_at plan.graph e) ≡ reading plan e (edge_at plan.graph e) (operand_of (edge_at plan.graph e) n)
    read_here is = ap (λ (b : Bool). if b then reading plan e (edge_at plan.graph e) (operand_of (edge_at plan.graph e) n) else []) (test_same (edge_at plan.graph e).to.0 i is)

    read_none : ((edge_at plan.graph e).to.0 ≡ i → ⊥) → read_part e (edge_at plan.graph e) ≡ []
    read_none differs = ap (λ (b : Bool). if b then reading plan e (edge_at plan.graph e) (operand_of (edge_at plan.graph e) n) else []) (test_differs (edge_at plan.graph e).to.0 i differs)

    write_here : (from : Producer) → ComesFrom from i → writing plan i n e from ≡ (if is_some (place_on plan e n) then both_writes plan e n else [])
    write_here (producers.Constant value) comes = absurd comes
    write_here (producers.Port task out) comes = ap (λ (b : Bool). if b then (if is_some (place_on plan e n) then both_writes plan e n else []) else []) (test_same task.0 i comes)

    write_none : (from : Producer) → (ComesFrom from i → ⊥) → writing plan i n e from ≡ []
    write_none (producers.Constant value) never = refl
    write_none (producers.Port task out) never = ap (λ (b : Bool). if b then (if is_some (place_on plan e n) then both_writes plan e n else []) else []) (test_differs task.0 i never)

    pub read_found : (place left : ℕ) (a : Action) → (edge_at plan.graph e).to.0 ≡ i → place ≡ length (reads_of plan i n 0 (take e plan.graph.edges)) + left →
        slice_get (reading plan e (edge_at plan.graph e) (operand_of (edge_at plan.graph e) n)) left ≡ Some a → slice_get (reads_of plan i n 0 plan.graph.edges) place ≡ Some a
    read_found place left a to at got =
        found_in read_part (reads_of plan i n) (λ s. refl) (λ s x xs. refl) plan.graph.edges e inside place left a at (ap (λ (l : List Action). slice_get l left) (read_here to) ∙ got)

    pub read_passed : (place left rest : ℕ) → (edge_at plan.graph e).to.0 ≡ i → place ≡ length (reads_of plan i n 0 (take e plan.graph.edges)) + left →
        left ≡ length (reading plan e (edge_at plan.graph e) (operand_of (edge_at plan.graph e) n)) + rest → place ≡ length (reads_of plan i n 0 (take (e + 1) plan.graph.edges)) + rest
    read_passed place left rest to at more = omega (arith, reads_longer, ap length (read_here to), at, more)

    pub read_other : (place left : ℕ) → ((edge_at plan.graph e).to.0 ≡ i → ⊥) → place ≡ length (reads_of plan i n 0 (take e plan.graph.edges)) + left →
        place ≡ length (reads_of plan i n 0 (take (e + 1) plan.graph.edges)) + left
    read_other place left differs at = omega (arith, reads_longer, ap length (read_none differs), at)

    pub write_found : (place left : ℕ) (a : Action) → ComesFrom (edge_at plan.graph e).from i → place ≡ length (writes_of plan i n 0 (take e plan.graph.edges)) + left →
        slice_get (if is_some (place_on plan e n) then both_writes plan e n else []) left ≡ Some a → slice_get (writes_of plan i n 0 plan.graph.edges) place ≡ Some a
    write_found place left a comes at got =
        found_in write_part (writes_of plan i n) (λ s. refl) (λ s x xs. refl) plan.graph.edges e inside place left a at
        (ap (λ (l : List Action). slice_get l left) (write_here (edge_at plan.graph e).from comes) ∙ got)

    pub write_passed : (place left rest : ℕ) → ComesFrom (edge_at plan.graph e).from i → place ≡ length (writes_of plan i n 0 (take e plan.graph.edges)) + left →
        left ≡ length (if is_some (place_on plan e n) then both_writes plan e n else []) + rest → place ≡ length (writes_of plan i n 0 (take (e + 1) plan.graph.edges)) + rest
    write_passed place left rest comes at more = omega (arith, writes_longer, ap length (write_here (edge_at plan.graph e).from comes), at, more)

    pub write_other : (place left : ℕ) → (ComesFrom (edge_at plan.graph e).from i → ⊥) → place ≡ length (writes_of plan i n 0 (take e plan.graph.edges)) + left →
        place ≡ length (writes_of plan i n 0 (take (e + 1) plan.graph.edges)) + left
    write_other place left never at = omega (arith, writes_longer, ap length (write_none (edge_at plan.graph e).from never), at)

    pub reads_more : (edge_at plan.graph e).to.0 ≡ i → length (reads_of plan i n 0 (take (e + 1) plan.graph.edges))
        ≡ length (reads_of plan i n 0 (take e plan.graph.edges)) + length (reading plan e (edge_at plan.graph e) (operand_of (edge_at plan.graph e) n))
    reads_more to = omega (arith, reads_longer, ap length (read_here to))

    pub reads_same : ((edge_at plan.graph e).to.0 ≡ i → ⊥) → length (reads_of plan i n 0 (take (e + 1) plan.graph.edges)) ≡ length (reads_of plan i n 0 (take e plan.graph.edges))
    reads_same differs = omega (arith, reads_longer, ap length (read_none differs))

    pub writes_more : ComesFrom (edge_at plan.graph e).from i → length (writes_of plan i n 0 (take (e + 1) plan.graph.edges))
        ≡ length (writes_of plan i n 0 (take e plan.graph.edges)) + length (if is_some (place_on plan e n) then both_writes plan e n else [])
    writes_more comes = omega (arith, writes_longer, ap length (write_here (edge_at plan.graph e).from comes))

    pub writes_same : (ComesFrom (edge_at plan.graph e).from i → ⊥) → length (writes_of plan i n 0 (take (e + 1) plan.graph.edges)) ≡ length (writes_of plan i n 0 (take e plan.graph.edges))
    writes_same never = omega (arith, writes_longer, ap length (write_none (edge_at plan.graph e).from never))

  pub all_actions_long : length (actions_of plan i n) ≡ 1 + length (reads_of plan i n 0 plan.graph.edges) + length (writes_of plan i n 0 plan.graph.edges)
  all_actions_long =
      let b = length-append (reads_of plan i n 0 plan.graph.edges) (writes_of plan i n 0 plan.graph.edges) in
      omega (arith, length-append (reads_of plan i n 0 plan.graph.edges ++ writes_of plan i n 0 plan.graph.edges) (actions.End ∷ []), b)
