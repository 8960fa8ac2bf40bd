-- Where the actions of a job stand: reads, then writes, then the end.
use Rattle.prl_base.proofs.Standard.{◌≡◌, ◌+◌, ◌*◌, ◌<◌, ◌≤◌, ◌++◌, ℕ, zero, suc, Bool, true, false, List, [], ◌∷◌, length, get_or, Some, inl, inr, refl, sym, ◌∙◌, ap, subst, arith, cond, eqb}
use Rattle.prl_base.proofs.Standard.{length-append, is_some, slice_get, cases_eq, get_or_append_left, get_or-append-add}
use Rattle.prl_plan.specs.Vocabulary.{Action, Edge, Producer, Operand, operand_of, ComesFrom, PlanView, place_on, cell_of, low, high, both_writes, IsHalfOf, reading, reads_of, writing, writes_of}
use Rattle.prl_plan.specs.Vocabulary.{actions_of}
use Rattle.prl_plan.specs.declared.events.Action.TheVariants as actions
use Rattle.prl_plan.specs.declared.graphs.Producer.TheVariants as producers
use Rattle.prl_plan.specs.declared.walks.Operand.TheVariants as operands
use Rattle.prl_plan.proofs.UsedLaws.{test_same}

-- the action is no end; it is a write to edge f and slot h
abbrev pub GoesOn : Action → Type 0
GoesOn (actions.ReadConst port value) = Unit {0}
GoesOn (actions.Read port edge m cell) = Unit {0}
GoesOn (actions.Write edge m cell) = Unit {0}
GoesOn actions.End = ⊥

abbrev pub WritesTo : ℕ → ℕ → Action → Type 0
WritesTo f h (actions.ReadConst port value) = ⊥
WritesTo f h (actions.Read port edge m slot) = ⊥
WritesTo f h (actions.Write edge m slot) = (edge.0 ≡ f) × (slot.0 ≡ h)
WritesTo f h actions.End = ⊥

abbrev pub Each : (Action → Type 0) → List Action → Type 0
Each P xs = (k : ℕ) → k < length xs → P (get_or xs k actions.End)

abbrev pub NoneOf : (Action → Type 0) → List Action → Type 0
NoneOf P xs = (k : ℕ) → P (get_or xs k actions.End) → ⊥

abbrev pub Unique : (Action → Type 0) → List Action → Type 0
Unique P xs = (k l : ℕ) → P (get_or xs k actions.End) → P (get_or xs l actions.End) → k ≡ l

pub each_both : (P : Action → Type 0) → (xs ys : List Action) → Each P xs → Each P ys → Each P (xs ++ ys)
each_both P [] ys first second k inside = second k inside
each_both P (x ∷ xs) ys first second zero inside = first 0 (omega arith)
each_both P (x ∷ xs) ys first second (suc k) inside = each_both P xs ys (λ n h. first (suc n) (omega (arith, h))) second k (omega arith)

each_single : (P : Action → Type 0) → (x : Action) → P x → Each P (x ∷ [])
each_single P x is zero inside = is
each_single P x is (suc k) inside = absurd (omega arith)

each_test : (P : Action → Type 0) → (b : Bool) (xs : List Action) → Each P xs → Each P (cond b xs [])
each_test P true xs is k inside = is k inside
each_test P false xs is k inside = absurd (omega arith)

-- after the end there is nothing but the end
pub last_end : (xs : List Action) → Each GoesOn xs → (place later : ℕ) → get_or (xs ++ actions.End ∷ []) place actions.End ≡ actions.End → place < later →
    get_or (xs ++ actions.End ∷ []) later actions.End ≡ actions.End
last_end [] on place zero ends before = refl
last_end [] on place (suc later) ends before = refl
last_end (x ∷ xs) on zero later ends before = absurd (subst (λ (a : Action). GoesOn a) (ends) (on 0 (omega arith)))
last_end (x ∷ xs) on (suc place) zero ends before = absurd (omega arith)
last_end (x ∷ xs) on (suc place) (suc later) ends before = last_end xs (λ n h. on (suc n) (omega (arith, h))) place later ends (omega arith)

-- the end stands after all that goes on
end_after : (xs : List Action) → Each GoesOn xs → (place : ℕ) → get_or (xs ++ actions.End ∷ []) place actions.End ≡ actions.End → length xs ≤ place
end_after [] on place ends = omega arith
end_after (x ∷ xs) on zero ends = absurd (subst (λ (a : Action). GoesOn a) (ends) (on 0 (omega arith)))
end_after (x ∷ xs) on (suc place) ends = omega (arith, end_after xs (λ n h. on (suc n) (omega (arith, h))) place ends)

-- what stands in the first list only
none_second : (P : Action → Type 0) → (xs ys : List Action) → NoneOf P ys → (k : ℕ) → P (get_or (xs ++ ys) k actions.End) → P (get_or xs k actions.End)
none_second P [] ys none k h = absurd (none k h)
none_second P (x ∷ xs) ys none zero h = h
none_second P (x ∷ xs) ys none (suc k) h = none_second P xs ys none k h

pub unique_first : (P : Action → Type 0) → (xs ys : List Action) → Unique P xs → NoneOf P ys → Unique P (xs ++ ys)
unique_first P xs ys unique none k l h g = unique k l (none_second P xs ys none k h) (none_second P xs ys none l g)

pub unique_second : (P : Action → Type 0) → (xs ys : List Action) → NoneOf P xs → Unique P ys → Unique P (xs ++ ys)
unique_second P [] ys none unique k l h g = unique k l h g
unique_second P (x ∷ xs) ys none unique zero l h g = absurd (none 0 h)
unique_second P (x ∷ xs) ys none unique (suc k) zero h g = absurd (none 0 g)
unique_second P (x ∷ xs) ys none unique (suc k) (suc l) h g =
    ap (λ (n : ℕ). suc n) (unique_second P xs ys (λ n. none (suc n)) unique k l h g)

-- an action stands at a place of the list
pub record Stands (xs : List Action) (x : Action) : Type 0 where
  pub place : ℕ
  pub inside : place < length xs
  pub is : get_or xs place actions.End ≡ x

pub stands_first : (xs ys : List Action) (x : Action) → Stands xs x → Stands (xs ++ ys) x
stands_first xs ys x s = record {
  place = s.place;
  inside = omega (arith, s.inside, length-append xs ys);
  is = get_or_append_left xs ys actions.End s.place s.inside ∙ s.is;
}

pub stands_second : (xs ys : List Action) (x : Action) → Stands ys x → Stands (xs ++ ys) x
stands_second xs ys x s = record {
  place = length xs + s.place;
  inside = omega (arith, s.inside, length-append xs ys);
  is = get_or-append-add xs ys s.place actions.End ∙ s.is;
}

length_test : (b : Bool) (xs : List Action) → length (cond b xs []) ≤ length xs
length_test true xs = omega arith
length_test false xs = omega arith

each_pair : (P : Action → Type 0) → (x y : Action) → P x → P y → Each P (x ∷ y ∷ [])
each_pair P x y is is' zero inside = is
each_pair P x y is is' (suc zero) inside = is'
each_pair P x y is is' (suc (suc k)) inside = absurd (omega arith)

-- under a test, at most as much holds as of the list itself
unique_if : (P : Action → Type 0) → (P actions.End → ⊥) → (b : Bool) (xs : List Action) → Unique P xs → Unique P (cond b xs [])
unique_if P end true xs unique k l h g = unique k l h g
unique_if P end false xs unique k l h g = absurd (end h)

none_if : (P : Action → Type 0) → (P actions.End → ⊥) → (b : Bool) (xs : List Action) → NoneOf P xs → NoneOf P (cond b xs [])
none_if P end true xs none k h = none k h
none_if P end false xs none k h = end h

pub stands_if : (b : Bool) → b ≡ true → (xs : List Action) (x : Action) → Stands xs x → Stands (cond b xs []) x
stands_if true is xs x s = s
stands_if false is xs x s = cc

module _ (plan : PlanView) (i n : ℕ) where
  reading_on : (e : ℕ) (edge : Edge) (operand : Operand) → Each GoesOn (reading plan e edge operand)
  reading_on e edge (operands.Const c) = each_single GoesOn (actions.ReadConst edge.port c) tt
  reading_on e edge (operands.From m) =
      each_pair GoesOn (actions.Read edge.port (record { 0 = e }) m (record { 0 = low (cell_of plan e m) }))
      (actions.Read edge.port (record { 0 = e }) m (record { 0 = high (cell_of plan e m) })) tt tt

  reading_no_write : (f h e : ℕ) (edge : Edge) (operand : Operand) → NoneOf (WritesTo f h) (reading plan e edge operand)
  reading_no_write f h e edge (operands.Const c) zero x = x
  reading_no_write f h e edge (operands.Const c) (suc k) x = x
  reading_no_write f h e edge (operands.From m) zero x = x
  reading_no_write f h e edge (operands.From m) (suc zero) x = x
  reading_no_write f h e edge (operands.From m) (suc (suc k)) x = x

  reads_on : (e : ℕ) (edges : List Edge) → Each GoesOn (reads_of plan i n e edges)
  reads_on e [] k inside = absurd (omega arith)
  reads_on e (edge ∷ edges) k inside =
      each_both GoesOn (cond (eqb edge.to.0 i) (reading plan e edge (operand_of edge n)) []) (reads_of plan i n (e + 1) edges)
      (each_test GoesOn (eqb edge.to.0 i) (reading plan e edge (operand_of edge n)) (reading_on e edge (operand_of edge n)))
      (reads_on (e + 1) edges) k inside

  reads_no_write : (f h e : ℕ) (edges : List Edge) → NoneOf (WritesTo f h) (reads_of plan i n e edges)
  reads_no_write f h e [] k x = x
  reads_no_write f h e (edge ∷ edges) k x =
      none_if (WritesTo f h) (λ y. y) (eqb edge.to.0 i) (reading plan e edge (operand_of edge n)) (reading_no_write f h e edge (operand_of edge n)) k
      (none_second (WritesTo f h) (cond (eqb edge.to.0 i) (reading plan e edge (operand_of edge n)) []) (reads_of plan i n (e + 1) edges)
      (reads_no_write f h (e + 1) edges) k x)

  both_on : (e : ℕ) → Each GoesOn (both_writes plan e n)
  both_on e =
      each_pair GoesOn (actions.Write (record { 0 = e }) n (record { 0 = low (cell_of plan e n) }))
      (actions.Write (record { 0 = e }) n (record { 0 = high (cell_of plan e n) })) tt tt

  writing_on : (e : ℕ) (from : Producer) → Each GoesOn (writing plan i n e from)
  writing_on e (producers.Constant value) k inside = absurd (omega arith)
  writing_on e (producers.Port task out) k inside =
      each_test GoesOn (eqb task.0 i) (cond (is_some (place_on plan e n)) (both_writes plan e n) [])
      (each_test GoesOn (is_some (place_on plan e n)) (both_writes plan e n) (both_on e)) k inside

  writes_on : (e : ℕ) (edges : List Edge) → Each GoesOn (writes_of plan i n e edges)
  writes_on e [] k inside = absurd (omega arith)
  writes_on e (edge ∷ edges) k inside =
      each_both GoesOn (writing plan i n e edge.from) (writes_of plan i n (e + 1) edges) (writing_on e edge.from) (writes_on (e + 1) edges) k inside

  -- the writes of edge e on are to edge e and later ones
  both_else : (f h e : ℕ) → (e ≡ f → ⊥) → NoneOf (WritesTo f h) (both_writes plan e n)
  both_else f h e other zero x = other x.0
  both_else f h e other (suc zero) x = other x.0
  both_else f h e other (suc (suc k)) x = x

  writing_else : (f h e : ℕ) → (e ≡ f → ⊥) → (from : Producer) → NoneOf (WritesTo f h) (writing plan i n e from)
  writing_else f h e other (producers.Constant value) k x = x
  writing_else f h e other (producers.Port task out) k x =
      none_if (WritesTo f h) (λ y. y) (eqb task.0 i) (cond (is_some (place_on plan e n)) (both_writes plan e n) [])
      (none_if (WritesTo f h) (λ y. y) (is_some (place_on plan e n)) (both_writes plan e n) (both_else f h e other)) k x

  writes_later : (f h e : ℕ) (edges : List Edge) → f < e → NoneOf (WritesTo f h) (writes_of plan i n e edges)
  writes_later f h e [] before k x = x
  writes_later f h e (edge ∷ edges) before k x =
      writing_else f h e (λ same. omega (arith, same, before)) edge.from k
      (none_second (WritesTo f h) (writing plan i n e edge.from) (writes_of plan i n (e + 1) edges) (writes_later f h (e + 1) edges (omega arith)) k x)

  -- the two writes are to different halves
  both_once : (f h e : ℕ) → Unique (WritesTo f h) (both_writes plan e n)
  both_once f h e zero zero x y = refl
  both_once f h e zero (suc zero) x y = absurd (omega (arith, x.1, y.1))
  both_once f h e zero (suc (suc l)) x y = absurd y
  both_once f h e (suc zero) zero x y = absurd (omega (arith, x.1, y.1))
  both_once f h e (suc zero) (suc zero) x y = refl
  both_once f h e (suc zero) (suc (suc l)) x y = absurd y
  both_once f h e (suc (suc k)) l x y = absurd x

  writing_once : (f h e : ℕ) (from : Producer) → Unique (WritesTo f h) (writing plan i n e from)
  writing_once f h e (producers.Constant value) k l x y = absurd x
  writing_once f h e (producers.Port task out) k l x y =
      unique_if (WritesTo f h) (λ z. z) (eqb task.0 i) (cond (is_some (place_on plan e n)) (both_writes plan e n) [])
      (unique_if (WritesTo f h) (λ z. z) (is_some (place_on plan e n)) (both_writes plan e n) (both_once f h e)) k l x y

  writes_once : (f h e : ℕ) (edges : List Edge) → Unique (WritesTo f h) (writes_of plan i n e edges)
  writes_once f h e [] k l x y = absurd x
  writes_once f h e (edge ∷ edges) k l x y =
      elim (cases_eq e f) [
        | inl same ↦ unique_first (WritesTo f h) (writing plan i n e edge.from) (writes_of plan i n (e + 1) edges)
            (writing_once f h e edge.from) (writes_later f h (e + 1) edges (omega (arith, same))) k l x y
        | inr other ↦ unique_second (WritesTo f h) (writing plan i n e edge.from) (writes_of plan i n (e + 1) edges)
            (writing_else f h e other edge.from) (writes_once f h (e + 1) edges) k l x y
      ]

  no_end : (f h : ℕ) → NoneOf (WritesTo f h) (actions.End ∷ [])
  no_end f h zero x = x
  no_end f h (suc k) x = x

  -- a job writes to each half on an edge at most once
  pub once_on : (f h : ℕ) → Unique (WritesTo f h) (actions_of plan i n)
  once_on f h =
      unique_first (WritesTo f h) (reads_of plan i n 0 plan.graph.edges ++ writes_of plan i n 0 plan.graph.edges) (actions.End ∷ [])
      (unique_second (WritesTo f h) (reads_of plan i n 0 plan.graph.edges) (writes_of plan i n 0 plan.graph.edges)
      (reads_no_write f h 0 plan.graph.edges) (writes_once f h 0 plan.graph.edges)) (no_end f h)

  -- a job ends after all its reads and writes
  pub ends_after : (place : ℕ) → get_or (actions_of plan i n) place actions.End ≡ actions.End → length (actions_of plan i n) ≤ place + 1
  ends_after place ends =
      let after = end_after (reads_of plan i n 0 plan.graph.edges ++ writes_of plan i n 0 plan.graph.edges)
      (each_both GoesOn (reads_of plan i n 0 plan.graph.edges) (writes_of plan i n 0 plan.graph.edges)
      (reads_on 0 plan.graph.edges) (writes_on 0 plan.graph.edges)) place ends in
      omega (arith, after, length-append (reads_of plan i n 0 plan.graph.edges ++ writes_of plan i n 0 plan.graph.edges) (actions.End ∷ []))

  pub ends_last : (place later : ℕ) → get_or (actions_of plan i n) place actions.End ≡ actions.End → place < later →
      get_or (actions_of plan i n) later actions.End ≡ actions.End
  ends_last place later ends before =
      last_end (reads_of plan i n 0 plan.graph.edges ++ writes_of plan i n 0 plan.graph.edges)
      (each_both GoesOn (reads_of plan i n 0 plan.graph.edges) (writes_of plan i n 0 plan.graph.edges)
      (reads_on 0 plan.graph.edges) (writes_on 0 plan.graph.edges)) place later ends before

  writing_stands : (e : ℕ) (from : Producer) → ComesFrom from i → is_some (place_on plan e n) ≡ true → (x : Action) → Stands (both_writes plan e n) x →
      Stands (writing plan i n e from) x
  writing_stands e (producers.Constant value) comes used x s = absurd comes
  writing_stands e (producers.Port task out) comes used x s =
      stands_if (eqb task.0 i) (test_same task.0 i comes) (cond (is_some (place_on plan e n)) (both_writes plan e n) []) x
      (stands_if (is_some (place_on plan e n)) used (both_writes plan e n) x s)

  writes_stand : (e : ℕ) (edges : List Edge) (k : ℕ) (edge : Edge) → slice_get edges k ≡ Some edge → ComesFrom edge.from i →
      is_some (place_on plan (e + k) n) ≡ true → (x : Action) → Stands (both_writes plan (e + k) n) x →
      Stands (writes_of plan i n e edges) x
  writes_stand e [] k edge is comes used a s = cc
  writes_stand e (x ∷ edges) zero edge is comes used a s =
      let one : x ≡ edge = cc in
      let at : e + 0 ≡ e = omega arith in
      stands_first (writing plan i n e x.from) (writes_of plan i n (e + 1) edges) a
      (writing_stands e x.from (subst (λ (y : Edge). ComesFrom y.from i) (sym one) comes)
      (subst (λ (f : ℕ). is_some (place_on plan f n) ≡ true) at used) a (subst (λ (f : ℕ). Stands (both_writes plan f n) a) at s))
  writes_stand e (x ∷ edges) (suc k) edge is comes used a s =
      let at : e + 1 + k ≡ e + suc k = omega arith in
      stands_second (writing plan i n e x.from) (writes_of plan i n (e + 1) edges) a
      (writes_stand (e + 1) edges k edge is comes (subst (λ (f : ℕ). is_some (place_on plan f n) ≡ true) (sym at) used) a
      (subst (λ (f : ℕ). Stands (both_writes plan f n) a) (sym at) s))

  -- to each edge from its task whose instance is used, a job writes both halves
  pub write_stands : (e : ℕ) (edge : Edge) → slice_get plan.graph.edges e ≡ Some edge → ComesFrom edge.from i → is_some (place_on plan e n) ≡ true →
      (x : Action) → Stands (both_writes plan e n) x → Stands (actions_of plan i n) x
  write_stands e edge is comes used x s =
      let at : 0 + e ≡ e = omega arith in
      stands_first (reads_of plan i n 0 plan.graph.edges ++ writes_of plan i n 0 plan.graph.edges) (actions.End ∷ []) x
      (stands_second (reads_of plan i n 0 plan.graph.edges) (writes_of plan i n 0 plan.graph.edges) x
      (writes_stand 0 plan.graph.edges e edge is comes (subst (λ (f : ℕ). is_some (place_on plan f n) ≡ true) (sym at) used) x
      (subst (λ (f : ℕ). Stands (both_writes plan f n) x) (sym at) s)))

  -- a half of the cell is one of the two that are written
  pub half_stands : (e slot : ℕ) → IsHalfOf (cell_of plan e n) slot → Stands (both_writes plan e n) (actions.Write (record { 0 = e }) n (record { 0 = slot }))
  half_stands e slot (inl is) = record { place = 0; inside = (let z : 0 < 2 = omega arith in z); is = ap (λ (x : ℕ). actions.Write (record { 0 = e }) n (record { 0 = x })) (sym is) }
  half_stands e slot (inr is) = record { place = 1; inside = (let z : 1 < 2 = omega arith in z); is = ap (λ (x : ℕ). actions.Write (record { 0 = e }) n (record { 0 = x })) (sym is) }

  length_writing : (e : ℕ) (from : Producer) → length (writing plan i n e from) ≤ 2
  length_writing e (producers.Constant value) = omega arith
  length_writing e (producers.Port task out) =
      omega (arith, length_test (eqb task.0 i) (cond (is_some (place_on plan e n)) (both_writes plan e n) []), length_test (is_some (place_on plan e n)) (both_writes plan e n))

  length_writes : (e : ℕ) (edges : List Edge) → length (writes_of plan i n e edges) ≤ 2 * length edges
  length_writes e [] = omega arith
  length_writes e (edge ∷ edges) =
      omega (arith, length-append (writing plan i n e edge.from) (writes_of plan i n (e + 1) edges), length_writing e edge.from, length_writes (e + 1) edges)

  length_reading : (e : ℕ) (edge : Edge) (operand : Operand) → length (reading plan e edge operand) ≤ 2
  length_reading e edge (operands.Const c) = omega arith
  length_reading e edge (operands.From m) = omega arith

  length_reads : (e : ℕ) (edges : List Edge) → length (reads_of plan i n e edges) ≤ 2 * length edges
  length_reads e [] = omega arith
  length_reads e (edge ∷ edges) =
      let b = length_test (eqb edge.to.0 i) (reading plan e edge (operand_of edge n)) in
      let c = length_reads (e + 1) edges in
      omega (arith, length-append (cond (eqb edge.to.0 i) (reading plan e edge (operand_of edge n)) []) (reads_of plan i n (e + 1) edges), b, c, length_reading e edge (operand_of edge n))

  pub length_actions : length (actions_of plan i n) ≤ 4 * length plan.graph.edges + 1
  length_actions =
      let b = length-append (reads_of plan i n 0 plan.graph.edges) (writes_of plan i n 0 plan.graph.edges) in
      let d = length_writes 0 plan.graph.edges in
      omega (arith, length-append (reads_of plan i n 0 plan.graph.edges ++ writes_of plan i n 0 plan.graph.edges) (actions.End ∷ []), b, length_reads 0 plan.graph.edges, d)
