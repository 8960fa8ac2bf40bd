-- What a job does, edge by edge of its task's route.
use Rattle.std.proofs.Common.{◌≡◌, ◌+◌, ◌<◌, ◌≤◌, ◌++◌, ◌⊎◌, ℕ, zero, suc, Bool, true, false, List, [], ◌∷◌, length, length-append, append-nil, append_assoc, take, drop, get_or, Some, refl, sym, ◌∙◌, ap, arith, subst, inl, inr}
use Rattle.std.specs.Prelude.{◌==◌, is_some, slice_get, if◌then◌else◌}
use Rattle.std.proofs.lemmas.Option.{get_or_from_slice_get}
use Rattle.prl_plan.specs.Vocabulary.{operand_of, ComesFrom, PlanView, edge_at, no_edge, place_on, both_writes, reading, reads_of, writing, writes_of, actions_of}
use Rattle.prl_plan.specs.declared.events.Action.{Action}
use Rattle.prl_plan.specs.declared.graphs.Edge.{Edge}
use Rattle.prl_plan.specs.declared.graphs.Producer.{Producer}
use Rattle.prl_plan.specs.declared.graphs.TaskGraph.{TaskGraph}
use Rattle.prl_plan.specs.declared.events.Action.TheVariants as actions
use Rattle.prl_plan.specs.declared.graphs.Producer.TheVariants as producers
use Rattle.prl_plan.proofs.UsedLaws.{test_equal}
use Rattle.prl_track.specs.Vocabulary.{Access, Cursor, ins_from, outs_from, is_from, route_of, on_access, on_route, IsAccessOf, IsAt}
use Rattle.prl_track.specs.declared.routes.Access.TheVariants as accesses

-- an element of two lists is one of the first, or one of the second
in_two : {A : Type 0} (xs ys : List A) (k : ℕ) (a : A) → slice_get (xs ++ ys) k ≡ Some a →
    (slice_get xs k ≡ Some a) ⊎ ((j : ℕ) × (slice_get ys j ≡ Some a))
in_two [] ys k a h = inr (k, h)
in_two (x ∷ xs) ys zero a h = inl h
in_two (x ∷ xs) ys (suc k) a h = in_two xs ys k a h

in_first : {A : Type 0} (xs ys : List A) (k : ℕ) (a : A) → slice_get xs k ≡ Some a → slice_get (xs ++ ys) k ≡ Some a
in_first [] ys k a h = cc
in_first (x ∷ xs) ys zero a h = h
in_first (x ∷ xs) ys (suc k) a h = in_first xs ys k a h

in_second : {A : Type 0} (xs ys : List A) (k j : ℕ) → k ≡ length xs + j → slice_get (xs ++ ys) k ≡ slice_get ys j
in_second [] ys k j is = ap (λ (n : ℕ). slice_get ys n) (let e : k ≡ j = omega (arith, is) in e)
in_second (x ∷ xs) ys zero j is = absurd (omega (arith, is))
in_second (x ∷ xs) ys (suc k) j is = in_second xs ys k j (omega (arith, is))

-- the elements from number e on, of which the first is this one
from_here : (xs ys : List Edge) (e : ℕ) (y : Edge) → drop e xs ≡ y ∷ ys → (e < length xs) × (get_or xs e no_edge ≡ y) × (drop (e + 1) xs ≡ ys)
from_here [] ys zero y h = absurd cc
from_here [] ys (suc e) y h = absurd cc
from_here (x ∷ xs) ys zero y h = (omega arith, ap (λ (l : List Edge). get_or l 0 no_edge) h, ap (λ (l : List Edge). drop 1 l) h)
from_here (x ∷ xs) ys (suc e) y h =
    let r = from_here xs ys e y h in
    (omega (arith, r.0), r.1, ap (λ (k : ℕ). drop k (x ∷ xs)) (let s : suc e + 1 ≡ suc (e + 1) = omega arith in s) ∙ r.2)

both_routes : (plan : PlanView) (n : ℕ) (xs ys : List Access) → on_route plan n (xs ++ ys) ≡ on_route plan n xs ++ on_route plan n ys
both_routes plan n [] ys = refl
both_routes plan n (x ∷ xs) ys =
    ap (λ (l : List Action). on_access plan n x ++ l) (both_routes plan n xs ys) ∙ sym (append_assoc (on_access plan n x) (on_route plan n xs) (on_route plan n ys))

module _ (plan : PlanView) (i n : ℕ) where
  abbrev written : ℕ → List Action
  written e = if is_some (place_on plan e n) then both_writes plan e n else []

  one_read : (b : Bool) (e : ℕ) (edge : Edge) → edge_at plan.graph e ≡ edge →
      (if b then reading plan e edge (operand_of edge n) else []) ≡ on_route plan n (if b then accesses.Reads (record { 0 = e }) ∷ [] else [])
  one_read true e edge is =
      sym (ap (λ (x : Edge). reading plan e x (operand_of x n) ++ []) is ∙ append-nil (reading plan e edge (operand_of edge n)))
  one_read false e edge is = refl

  one_write_if : (b : Bool) (e : ℕ) → (if b then written e else []) ≡ on_route plan n (if b then accesses.Writes (record { 0 = e }) ∷ [] else [])
  one_write_if true e = sym (append-nil (written e))
  one_write_if false e = refl

  one_write : (from : Producer) (e : ℕ) → writing plan i n e from ≡ on_route plan n (if is_from i from then accesses.Writes (record { 0 = e }) ∷ [] else [])
  one_write (producers.Constant value) e = refl
  one_write (producers.Port task out) e = one_write_if (task.0 == i) e

  reads_on_route : (edges : List Edge) (e : ℕ) → drop e plan.graph.edges ≡ edges → reads_of plan i n e edges ≡ on_route plan n (ins_from i e edges)
  reads_on_route [] e is = refl
  reads_on_route (edge ∷ edges) e is =
      let here = from_here plan.graph.edges edges e edge is in
      ap (λ (l : List Action). (if edge.to.0 == i then reading plan e edge (operand_of edge n) else []) ++ l) (reads_on_route edges (e + 1) here.2)
      ∙ ap (λ (l : List Action). l ++ on_route plan n (ins_from i (e + 1) edges)) (one_read (edge.to.0 == i) e edge here.1)
      ∙ sym (both_routes plan n (if edge.to.0 == i then accesses.Reads (record { 0 = e }) ∷ [] else []) (ins_from i (e + 1) edges))

  writes_on_route : (edges : List Edge) (e : ℕ) → writes_of plan i n e edges ≡ on_route plan n (outs_from i e edges)
  writes_on_route [] e = refl
  writes_on_route (edge ∷ edges) e =
      ap (λ (l : List Action). writing plan i n e edge.from ++ l) (writes_on_route edges (e + 1))
      ∙ ap (λ (l : List Action). l ++ on_route plan n (outs_from i (e + 1) edges)) (one_write edge.from e)
      ∙ sym (both_routes plan n (if is_from i edge.from then accesses.Writes (record { 0 = e }) ∷ [] else []) (outs_from i (e + 1) edges))

  -- the actions of a job are those on its task's route, and the end
  pub actions_on_route : actions_of plan i n ≡ on_route plan n (route_of plan.graph i) ++ actions.End ∷ []
  actions_on_route =
      ap (λ (l : List Action). l ++ writes_of plan i n 0 plan.graph.edges ++ actions.End ∷ []) (reads_on_route plan.graph.edges 0 refl)
      ∙ ap (λ (l : List Action). on_route plan n (ins_from i 0 plan.graph.edges) ++ l ++ actions.End ∷ []) (writes_on_route plan.graph.edges 0)
      ∙ ap (λ (l : List Action). l ++ actions.End ∷ []) (sym (both_routes plan n (ins_from i 0 plan.graph.edges) (outs_from i 0 plan.graph.edges)))

module _ (graph : TaskGraph) (i : ℕ) where
  one_in : (b : Bool) (e : ℕ) → (b ≡ true → IsAccessOf graph i (accesses.Reads (record { 0 = e }))) → (k : ℕ) (access : Access) →
      slice_get (if b then accesses.Reads (record { 0 = e }) ∷ [] else []) k ≡ Some access → IsAccessOf graph i access
  one_in true e is zero access h = let same : accesses.Reads (record { 0 = e }) ≡ access = cc in subst (IsAccessOf graph i) same (is refl)
  one_in true e is (suc k) access h = absurd cc
  one_in false e is k access h = absurd cc

  one_out : (b : Bool) (e : ℕ) → (b ≡ true → IsAccessOf graph i (accesses.Writes (record { 0 = e }))) → (k : ℕ) (access : Access) →
      slice_get (if b then accesses.Writes (record { 0 = e }) ∷ [] else []) k ≡ Some access → IsAccessOf graph i access
  one_out true e is zero access h = let same : accesses.Writes (record { 0 = e }) ≡ access = cc in subst (IsAccessOf graph i) same (is refl)
  one_out true e is (suc k) access h = absurd cc
  one_out false e is k access h = absurd cc

  ins_are : (edges : List Edge) (e : ℕ) → drop e graph.edges ≡ edges → (k : ℕ) (access : Access) → slice_get (ins_from i e edges) k ≡ Some access → IsAccessOf graph i access
  ins_are [] e is k access h = absurd cc
  ins_are (edge ∷ edges) e is k access h =
      let here = from_here graph.edges edges e edge is in
      elim (in_two (if edge.to.0 == i then accesses.Reads (record { 0 = e }) ∷ [] else []) (ins_from i (e + 1) edges) k access h) [
        | inl first ↦ one_in (edge.to.0 == i) e (λ holds. (here.0, ap (λ (x : Edge). x.to.0) here.1 ∙ test_equal edge.to.0 i holds)) k access first
        | inr later ↦ ins_are edges (e + 1) here.2 later.0 access later.1
      ]

  comes : (from : Producer) → is_from i from ≡ true → ComesFrom from i
  comes (producers.Port task out) holds = test_equal task.0 i holds
  comes (producers.Constant value) holds = absurd cc

  outs_are : (edges : List Edge) (e : ℕ) → drop e graph.edges ≡ edges → (k : ℕ) (access : Access) → slice_get (outs_from i e edges) k ≡ Some access → IsAccessOf graph i access
  outs_are [] e is k access h = absurd cc
  outs_are (edge ∷ edges) e is k access h =
      let here = from_here graph.edges edges e edge is in
      elim (in_two (if is_from i edge.from then accesses.Writes (record { 0 = e }) ∷ [] else []) (outs_from i (e + 1) edges) k access h) [
        | inl first ↦ one_out (is_from i edge.from) e
            (λ holds. (here.0, subst (λ (x : Edge). ComesFrom x.from i) (sym here.1) (comes edge.from holds))) k access first
        | inr later ↦ outs_are edges (e + 1) here.2 later.0 access later.1
      ]

  -- each edge of a route is of the graph and of the task
  pub route_is_of_task : (k : ℕ) (access : Access) → slice_get (route_of graph i) k ≡ Some access → IsAccessOf graph i access
  route_is_of_task k access h =
      elim (in_two (ins_from i 0 graph.edges) (outs_from i 0 graph.edges) k access h) [
        | inl first ↦ ins_are graph.edges 0 refl k access first
        | inr later ↦ outs_are graph.edges 0 refl later.0 access later.1
      ]

module _ (plan : PlanView) (n : ℕ) where
  -- an action on an edge stands after those on the edges before it
  on_route_at : (route : List Access) (k place rest : ℕ) (access : Access) (action : Action) → slice_get route k ≡ Some access →
      place ≡ length (on_route plan n (take k route)) + rest → slice_get (on_access plan n access) rest ≡ Some action →
      slice_get (on_route plan n route) place ≡ Some action
  on_route_at [] k place rest access action here at is = absurd cc
  on_route_at (x ∷ route) zero place rest access action here at is =
      let same : x ≡ access = cc in
      let p : place ≡ rest = omega (arith, at) in
      in_first (on_access plan n x) (on_route plan n route) place action
      (ap (λ (a : Access). slice_get (on_access plan n a) place) same ∙ ap (λ (m : ℕ). slice_get (on_access plan n access) m) p ∙ is)
  on_route_at (x ∷ route) (suc k) place rest access action here at is =
      let l = length-append (on_access plan n x) (on_route plan n (take k route)) in
      in_second (on_access plan n x) (on_route plan n route) place (length (on_route plan n (take k route)) + rest) (omega (arith, at, l))
      ∙ on_route_at route k (length (on_route plan n (take k route)) + rest) rest access action here refl is

  -- one edge more
  on_route_more : (route : List Access) (k : ℕ) (access : Access) → slice_get route k ≡ Some access →
      length (on_route plan n (take (k + 1) route)) ≡ length (on_route plan n (take k route)) + length (on_access plan n access)
  on_route_more [] k access here = absurd cc
  on_route_more (x ∷ route) zero access here =
      let same : x ≡ access = cc in
      omega (arith, length-append (on_access plan n x) [], ap (λ (y : Access). length (on_access plan n y)) same)
  on_route_more (x ∷ route) (suc k) access here =
      let s : suc k + 1 ≡ suc (k + 1) = omega arith in
      let r = length-append (on_access plan n x) (on_route plan n (take k route)) in
      let i = on_route_more route k access here in
      omega (arith, ap (λ (j : ℕ). length (on_route plan n (take j (x ∷ route)))) s, length-append (on_access plan n x) (on_route plan n (take (k + 1) route)), r, i)

-- after the list stands the end
end_past : (xs : List Action) (place rest : ℕ) → place ≡ length xs + rest → get_or (xs ++ actions.End ∷ []) place actions.End ≡ actions.End
end_past [] zero rest is = refl
end_past [] (suc place) rest is = refl
end_past (x ∷ xs) zero rest is = absurd (omega (arith, is))
end_past (x ∷ xs) (suc place) rest is = end_past xs place rest (omega (arith, is))

take_whole : (route : List Access) (k : ℕ) → length route ≤ k → take k route ≡ route
take_whole [] zero h = refl
take_whole [] (suc k) h = refl
take_whole (x ∷ route) zero h = absurd (omega (arith, h))
take_whole (x ∷ route) (suc k) h = ap (λ (l : List Access). x ∷ l) (take_whole route k (omega (arith, h)))

module _ (plan : PlanView) (i n place : ℕ) (cursor : Cursor) (at : IsAt plan i n place cursor) where
  pub action_here : (access : Access) (action : Action) → slice_get (route_of plan.graph i) cursor.index ≡ Some access →
      slice_get (on_access plan n access) cursor.rest ≡ Some action → get_or (actions_of plan i n) place actions.End ≡ action
  action_here access action here is =
      ap (λ (l : List Action). get_or l place actions.End) (actions_on_route plan i n)
      ∙ get_or_from_slice_get (on_route plan n (route_of plan.graph i) ++ actions.End ∷ []) place action actions.End
      (in_first (on_route plan n (route_of plan.graph i)) (actions.End ∷ []) place action
      (on_route_at plan n (route_of plan.graph i) cursor.index place cursor.rest access action here at.stands is))

  pub cursor_passes : (access : Access) (rest : ℕ) (next : Cursor) → slice_get (route_of plan.graph i) cursor.index ≡ Some access → cursor.index < length (route_of plan.graph i) →
      cursor.rest ≡ length (on_access plan n access) + rest → next.index ≡ cursor.index + 1 → next.rest ≡ rest → IsAt plan i n place next
  cursor_passes access rest next here below past index is =
      let same = ap (λ (k : ℕ). length (on_route plan n (take k (route_of plan.graph i)))) index in
      let p = at.stands in
      record { inside = omega (arith, below, index); stands = omega (arith, on_route_more plan n (route_of plan.graph i) cursor.index access here, same, p, past, is) }

  pub end_here : length (route_of plan.graph i) ≤ cursor.index → get_or (actions_of plan i n) place actions.End ≡ actions.End
  end_here past =
      let all : length (on_route plan n (take cursor.index (route_of plan.graph i))) ≡ length (on_route plan n (route_of plan.graph i)) =
      ap (λ (l : List Access). length (on_route plan n l)) (take_whole (route_of plan.graph i) cursor.index past) in
      ap (λ (l : List Action). get_or l place actions.End) (actions_on_route plan i n)
      ∙ end_past (on_route plan n (route_of plan.graph i)) place cursor.rest (omega (arith, all, at.stands))

-- the element of a number, and then those after it
drop_here : (edges : List Edge) (e : ℕ) (edge : Edge) → slice_get edges e ≡ Some edge → drop e edges ≡ edge ∷ drop (e + 1) edges
drop_here [] e edge h = absurd cc
drop_here (x ∷ edges) zero edge h = let same : x ≡ edge = cc in ap (λ (y : Edge). y ∷ edges) same
drop_here (x ∷ edges) (suc e) edge h =
    drop_here edges e edge h ∙ ap (λ (k : ℕ). edge ∷ drop k (x ∷ edges)) (let s : suc (e + 1) ≡ suc e + 1 = omega arith in s)

drop_none : (edges : List Edge) (e : ℕ) → length edges ≤ e → drop e edges ≡ []
drop_none [] zero h = refl
drop_none [] (suc e) h = refl
drop_none (x ∷ edges) zero h = absurd (omega (arith, h))
drop_none (x ∷ edges) (suc e) h = drop_none edges e (omega (arith, h))

module _ (i : ℕ) (edges : List Edge) (before : List Access) where
  -- the edges into a task that are listed so far, and those that are left
  abbrev pub ListsIns : ℕ → List Access → Type 0
  ListsIns e route = route ++ ins_from i e (drop e edges) ≡ before ++ ins_from i 0 edges

  abbrev pub ListsOuts : ℕ → List Access → Type 0
  ListsOuts e route = route ++ outs_from i e (drop e edges) ≡ before ++ outs_from i 0 edges

  -- one edge more of a list that is made edge by edge
  listed : (from : ℕ → List Edge → List Access) (made : Access) (all : List Access) (e : ℕ) (edge : Edge) (route route' : List Access) (b : Bool) →
      ((rest : List Edge) → from e (edge ∷ rest) ≡ (if b then made ∷ [] else []) ++ from (e + 1) rest) → slice_get edges e ≡ Some edge →
      route ++ from e (drop e edges) ≡ all → route' ≡ route ++ (if b then made ∷ [] else []) → route' ++ from (e + 1) (drop (e + 1) edges) ≡ all
  listed from made all e edge route route' b more here so is =
      ap (λ (l : List Access). l ++ from (e + 1) (drop (e + 1) edges)) is
      ∙ append_assoc route (if b then made ∷ [] else []) (from (e + 1) (drop (e + 1) edges))
      ∙ ap (λ (l : List Access). route ++ l) (sym (more (drop (e + 1) edges)))
      ∙ ap (λ (l : List Edge). route ++ from e l) (sym (drop_here edges e edge here))
      ∙ so

  pub ins_listed : (e : ℕ) (edge : Edge) (route route' : List Access) (b : Bool) → slice_get edges e ≡ Some edge → (edge.to.0 == i) ≡ b → ListsIns e route →
      route' ≡ route ++ (if b then accesses.Reads (record { 0 = e }) ∷ [] else []) → ListsIns (e + 1) route'
  ins_listed e edge route route' b here test so is =
      listed (ins_from i) (accesses.Reads (record { 0 = e })) (before ++ ins_from i 0 edges) e edge route route' b
      (λ rest. ap (λ (c : Bool). (if c then accesses.Reads (record { 0 = e }) ∷ [] else []) ++ ins_from i (e + 1) rest) test) here so is

  pub outs_listed : (e : ℕ) (edge : Edge) (route route' : List Access) (b : Bool) → slice_get edges e ≡ Some edge → is_from i edge.from ≡ b → ListsOuts e route →
      route' ≡ route ++ (if b then accesses.Writes (record { 0 = e }) ∷ [] else []) → ListsOuts (e + 1) route'
  outs_listed e edge route route' b here test so is =
      listed (outs_from i) (accesses.Writes (record { 0 = e })) (before ++ outs_from i 0 edges) e edge route route' b
      (λ rest. ap (λ (c : Bool). (if c then accesses.Writes (record { 0 = e }) ∷ [] else []) ++ outs_from i (e + 1) rest) test) here so is

  pub ins_all : (e : ℕ) (route : List Access) → length edges ≤ e → ListsIns e route → route ≡ before ++ ins_from i 0 edges
  ins_all e route past so = sym (append-nil route) ∙ ap (λ (l : List Edge). route ++ ins_from i e l) (sym (drop_none edges e past)) ∙ so

  pub outs_all : (e : ℕ) (route : List Access) → length edges ≤ e → ListsOuts e route → route ≡ before ++ outs_from i 0 edges
  outs_all e route past so = sym (append-nil route) ∙ ap (λ (l : List Edge). route ++ outs_from i e l) (sym (drop_none edges e past)) ∙ so
