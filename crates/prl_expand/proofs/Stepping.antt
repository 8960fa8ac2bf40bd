-- The steps through an expression, one after another, make what the expression makes.
use Rattle.prl_base.proofs.Standard.{◌≡◌, ◌≤◌, ◌+◌, ℕ, List, [], ◌∷◌, ◌++◌, map, length, Some, None, refl, sym, ap, ◌∙◌, subst, arith, append_assoc, append-nil, map-append, reverse, reverse-reverse, range_with_len, Vec, Global}
use Rattle.prl_base.specs.declared.places.Span.{Span}
use Rattle.prl_base.specs.declared.values.Ty.{Ty}
use Rattle.prl_ast.specs.declared.expressions.PlacedOp.{PlacedOp}
use Rattle.prl_ast.specs.Trees.{Tree, tree, Root, const, var, apply, group, Trees, none, more, NodeTree, ProgramTree}
use Rattle.prl_flow.specs.declared.programs.App.{App}
use Rattle.prl_flow.specs.declared.programs.Arg.{Arg}
use Rattle.prl_names.specs.Lookups.{callee_of}
use Rattle.prl_terms.specs.declared.terms.Term.{Term}
use Rattle.prl_types.specs.Flows as types
use Rattle.prl_causal.specs.Vocabulary.{Core, Part, Parts, given, root_given, last_of, node_at}
use Rattle.prl_causal.specs.Asked.{root_args}
use Rattle.prl_causal.specs.Annotations as notes
use Rattle.prl_expand.specs.Flats as flats
use Rattle.prl_expand.specs.Vocabulary.{Numbered, Types, arguments, flow_no, operator_flows, placed, resolved, Next, Made, a_call, a_core, a_part, all_parts, all_resolved, called_flows}
use Rattle.prl_expand.specs.Vocabulary.{first_type, operated_flows, operated_given, operated_types, types_given, past, past_core, past_part, past_parts}
use Rattle.prl_expand.specs.declared.terms.Term as given_term
use Rattle.prl_expand.specs.code.Acts.{Act, all_steps, root_steps, steps_of}
use Rattle.prl_expand.specs.code.Standings.{IsAt}
use Rattle.prl_expand.specs.code.Steps.{Given, Site, Standing, after, end_apps, end_flows, end_given, end_next, end_types, ended_flows, ended_given, ended_next, given_around, given_of, joined, nothing, numbers_in, past_operators, start, stepped}
use Rattle.prl_expand.proofs.Adding.{adds_as, adds_then}
use Rattle.prl_expand.proofs.Expressions.{apps_root, apply_given, expression_next, first_resolved, flows_root, numbers_root}
use Rattle.prl_expand.proofs.FlatRules.{arguments_are}
use Rattle.prl_expand.proofs.Remaining.{past_both}

abbrev standing : Given → List Given → List Numbered → List App → Next → Standing
standing list around fs us s = record { list = list; around = around; flows = fs; apps = us; next = s }

same_standing : (g h : Given) (gs : List Given) (fs fs' : List Numbered) (us us' : List App) (s s' : Next) → g ≡ h → fs ≡ fs' → us ≡ us' → s ≡ s' → standing g gs fs us s ≡ standing h gs fs' us' s'
same_standing g h gs fs fs' us us' s s' a b c d =
    ap (λ x. standing x gs fs us s) a ∙ ap (λ x. standing h gs x us s) b ∙ ap (λ x. standing h gs fs' x s) c ∙ ap (λ x. standing h gs fs' us' x) d

abbrev pub a_given : List Arg → List Ty → Given
a_given us tys = record { args = us; types = tys }

pub same_given : (us vs : List Arg) (tys kinds : List Ty) → us ≡ vs → tys ≡ kinds → a_given us tys ≡ a_given vs kinds
same_given us vs tys kinds a b = ap (λ x. a_given x tys) a ∙ ap (λ x. a_given vs x) b

abbrev next_of : ℕ → ℕ → ℕ → Next
next_of f a n = record { flow = f; app = a; node = n }

pub past_nothing : (s : Next) → past s [] [] [] ≡ s
past_nothing s =
    let a : s.flow + 0 ≡ s.flow = omega arith in
    let b : s.app + 0 ≡ s.app = omega arith in
    let c : s.node + 0 ≡ s.node = omega arith in
    ap (λ x. next_of x (s.app + 0) (s.node + 0)) a ∙ ap (λ x. next_of s.flow x (s.node + 0)) b ∙ ap (λ x. next_of s.flow s.app x) c

types_operated : (tys : Types) (pre post : List PlacedOp) (ts : List Term) → operated_types pre post (all_resolved tys ts) ≡ all_resolved tys (types.operated pre post ts)
types_operated tys [] [] ts = refl
types_operated tys [] (o ∷ post) ts = ap (λ (x : Ty). x ∷ []) (first_resolved tys ts)
types_operated tys (o ∷ pre) post ts = ap (λ (x : Ty). x ∷ []) (first_resolved tys ts)

pub numbers_are : (ts : List given_term.Term) → map (λ (t : given_term.Term). t.flow) ts ≡ numbers_in (given_of ts).args
numbers_are [] = refl
numbers_are (t ∷ ts) = ap (λ xs. t.flow ∷ xs) (numbers_are ts)

module _ (w : Site) where
  abbrev p : ProgramTree
  p = w.program

  abbrev tys : Types
  tys = w.types

  abbrev n : NodeTree
  n = node_at w.program w.node

  abbrev inner : Root → Next → Parts ℕ ℕ ℕ
  inner root s = all_parts p w.levels (root_args root) s

  abbrev core_of : Root → Next → Core ℕ ℕ ℕ
  core_of root s = a_core p w.levels root s

  -- what an expression gives, and what several do
  abbrev tree_given : Tree → Next → Given
  tree_given t s = a_given (placed t (given n w.env t (a_part p w.levels t s))) (all_resolved tys (types_given p w.node t))

  abbrev trees_given : Trees → Next → Given
  trees_given ts s = a_given (arguments n w.env ts (all_parts p w.levels ts s)) (all_resolved tys (types.all_flows p w.node ts))

  abbrev tree_flows : Tree → Next → List Numbered
  tree_flows t s = flats.part_flows p tys w.node n w.env t (a_part p w.levels t s)

  abbrev trees_flows : Trees → Next → List Numbered
  trees_flows ts s = flats.all_flows p tys w.node n w.env ts (all_parts p w.levels ts s)

  abbrev tree_apps : Tree → Next → List App
  tree_apps t s = flats.part_apps p n w.env t (a_part p w.levels t s)

  abbrev trees_apps : Trees → Next → List App
  trees_apps ts s = flats.all_apps p n w.env ts (all_parts p w.levels ts s)

  abbrev pub past_tree : Tree → Standing → Standing
  past_tree t st =
      standing (joined st.list (tree_given t st.next)) st.around (st.flows ++ tree_flows t st.next) (st.apps ++ tree_apps t st.next) (past_part st.next (a_part p w.levels t st.next))

  abbrev past_trees : Trees → Standing → Standing
  past_trees ts st =
      standing (joined st.list (trees_given ts st.next)) st.around (st.flows ++ trees_flows ts st.next) (st.apps ++ trees_apps ts st.next) (past_parts st.next (all_parts p w.levels ts st.next))

  past_no_trees : (st : Standing) → past_trees none st ≡ st
  past_no_trees st =
      same_standing (joined st.list nothing) st.list st.around (st.flows ++ []) st.flows (st.apps ++ []) st.apps (past st.next [] [] []) st.next
      (same_given (st.list.args ++ []) st.list.args (st.list.types ++ []) st.list.types (append-nil st.list.args) (append-nil st.list.types))
      (append-nil st.flows) (append-nil st.apps) (past_nothing st.next)

  past_more_trees : (t : Tree) (ts : Trees) (st : Standing) → past_trees ts (past_tree t st) ≡ past_trees (more t ts) st
  past_more_trees t ts st =
      let s : Next = st.next in
      let q : Part ℕ ℕ ℕ = a_part p w.levels t s in
      let s' : Next = past_part s q in
      let rest : Parts ℕ ℕ ℕ = all_parts p w.levels ts s' in
      let here : Given = tree_given t s in
      let there : Given = trees_given ts s' in
      same_standing _ _ st.around _ _ _ _ _ _
      (same_given ((st.list.args ++ here.args) ++ there.args) (st.list.args ++ (here.args ++ there.args)) ((st.list.types ++ here.types) ++ there.types) _
      (append_assoc st.list.args here.args there.args)
      (append_assoc st.list.types here.types there.types ∙ ap (λ xs. st.list.types ++ xs) (sym (map-append (resolved tys) (types_given p w.node t) (types.all_flows p w.node ts)))))
      (append_assoc st.flows (tree_flows t s) (trees_flows ts s'))
      (append_assoc st.apps (tree_apps t s) (trees_apps ts s'))
      (past_both s (notes.part_flows q) (notes.parts_flows rest) (notes.part_imports q) (notes.parts_imports rest) (notes.part_nodes q) (notes.parts_nodes rest))

  -- what an expression's operators are applied to
  root_given_is : (root : Root) (s : Next) → end_given w root (numbers_in (trees_given (root_args root) s).args) (past_parts s (inner root s)) ≡ root_given n w.env root (core_of root s)
  root_given_is (const v) s = let first : s.flow + 0 ≡ s.flow = omega arith in ap (λ i. i ∷ []) first
  root_given_is (var name) s = refl
  root_given_is (apply name at args) s = apply_given p tys w.levels w.node w.env name at at args s (past_parts s (all_parts p w.levels args s)) refl
  root_given_is (group parts) s = arguments_are n w.env parts (all_parts p w.levels parts s)

  root_types_are : (root : Root) → end_types w root (all_resolved tys (types.all_flows p w.node (root_args root))) ≡ all_resolved tys (types.root_flows p w.node root)
  root_types_are (const v) = refl
  root_types_are (var name) = refl
  root_types_are (apply name at args) = refl
  root_types_are (group parts) = refl

  root_flows_are : (root : Root) (place : Span) (s : Next) → trees_flows (root_args root) s ++ end_flows w root place (numbers_in (trees_given (root_args root) s).args) (past_parts s (inner root s))
      ≡ flats.root_flows_of p tys w.node n w.env root place (core_of root s)
  root_flows_are (const v) place s = let first : s.flow + 0 ≡ s.flow = omega arith in ap (λ i. flats.constant_flows (const v) i place) first
  root_flows_are (var name) place s = refl
  root_flows_are (apply name at args) place s =
      ap (λ is. trees_flows args s ++ called_flows p tys (callee_of p name) name at is (a_call p w.levels (callee_of p name) (past_parts s (all_parts p w.levels args s))))
      (arguments_are n w.env args (all_parts p w.levels args s))
      ∙ flows_root p tys w.levels w.node w.env name at place args s (callee_of p name) refl
  root_flows_are (group parts) place s = append-nil (trees_flows parts s)

  root_apps_are : (root : Root) (place : Span) (s : Next) → trees_apps (root_args root) s ++ end_apps w root (trees_given (root_args root) s).args (past_parts s (inner root s))
      ≡ flats.root_apps p n w.env root place (core_of root s)
  root_apps_are (const v) place s = refl
  root_apps_are (var name) place s = refl
  root_apps_are (apply name at args) place s = apps_root p tys w.levels w.node w.env name at place args s (callee_of p name) refl
  root_apps_are (group parts) place s = append-nil (trees_apps parts s)

  root_next_is : (root : Root) (s : Next) → end_next w root (past_parts s (inner root s)) ≡ past_core s (core_of root s)
  root_next_is (const v) s = past_both s [] (s.flow ∷ []) [] [] [] []
  root_next_is (var name) s = past_both s [] [] [] [] [] []
  root_next_is (apply name at args) s = numbers_root p tys w.levels w.node w.env name at at args s (callee_of p name)
  root_next_is (group parts) s = past_nothing (past_parts s (all_parts p w.levels parts s))

  module _ (pre : List PlacedOp) (root : Root) (post : List PlacedOp) (at : Span) where
    abbrev whole : Tree
    whole = tree pre root post at

    abbrev of : Next → List ℕ
    of s = root_given n w.env root (core_of root s)

    abbrev above : Next → ℕ
    above s = s.flow + length (notes.core_flows (core_of root s))

    abbrev kinds : List Term
    kinds = types.root_flows p w.node root

    abbrev at_place : List ℕ → List Arg
    at_place is = map (λ (i : ℕ). record { flow = flow_no i; at = at }) is

    given_is : (s : Next) → ended_given w whole (trees_given (root_args root) s) (past_parts s (inner root s)) ≡ tree_given whole s
    given_is s =
        same_given _ _ _ _
        (ap (λ (x : Next). at_place (operated_given x.flow pre post (end_given w root (numbers_in (trees_given (root_args root) s).args) (past_parts s (inner root s))))) (root_next_is root s)
        ∙ ap (λ is. at_place (operated_given (above s) pre post is)) (root_given_is root s))
        (ap (operated_types pre post) (root_types_are root) ∙ types_operated tys pre post kinds)

    flows_are : (s : Next) → trees_flows (root_args root) s ++ ended_flows w whole (trees_given (root_args root) s) (past_parts s (inner root s)) ≡ tree_flows whole s
    flows_are s =
        let g : Given = trees_given (root_args root) s in
        let s' : Next = past_parts s (inner root s) in
        let ty : Ty = resolved tys (types.operand kinds) in
        let turned = reverse-reverse (range_with_len (above s + length post) (length pre)) in
        let ops : operated_flows (end_next w root s').flow pre post (first_type (end_types w root g.types)) (end_given w root (numbers_in g.args) s') ≡ operated_flows (above s) pre post ty (of s) =
        ap (λ (x : Next). operated_flows x.flow pre post (first_type (end_types w root g.types)) (end_given w root (numbers_in g.args) s')) (root_next_is root s)
        ∙ ap (λ y. operated_flows (above s) pre post (first_type y) (end_given w root (numbers_in g.args) s')) (root_types_are root)
        ∙ ap (λ y. operated_flows (above s) pre post y (end_given w root (numbers_in g.args) s')) (first_resolved tys kinds)
        ∙ ap (operated_flows (above s) pre post ty) (root_given_is root s) in
        let back = ap (λ is. operator_flows ty (reverse pre) is (last_of (of s) (range_with_len (above s) (length post)))) (sym turned) in
        sym (append_assoc (trees_flows (root_args root) s) (end_flows w root at (numbers_in g.args) s') _)
        ∙ ap (λ xs. xs ++ operated_flows (end_next w root s').flow pre post (first_type (end_types w root g.types)) (end_given w root (numbers_in g.args) s')) (root_flows_are root at s)
        ∙ ap (λ xs. flats.root_flows_of p tys w.node n w.env root at (core_of root s) ++ xs)
        (ops ∙ ap (λ xs. operator_flows ty post (range_with_len (above s) (length post)) (of s) ++ xs) back)

    next_is : (s : Next) → ended_next w whole (past_parts s (inner root s)) ≡ past_part s (a_part p w.levels whole s)
    next_is s = ap (past_operators pre post) (root_next_is root s) ∙ expression_next p tys w.levels w.node w.env pre root post at s

    closing : (st : Standing) → stepped w (Some whole) (past_trees (root_args root) (stepped w None st)) ≡ past_tree whole st
    closing st =
        let s : Next = st.next in
        same_standing _ _ st.around _ _ _ _ _ _
        (ap (joined st.list) (given_is s))
        (append_assoc st.flows (trees_flows (root_args root) s) (ended_flows w whole (trees_given (root_args root) s) (past_parts s (inner root s))) ∙ ap (λ xs. st.flows ++ xs) (flows_are s))
        (append_assoc st.apps (trees_apps (root_args root) s) (end_apps w root (trees_given (root_args root) s).args (past_parts s (inner root s))) ∙ ap (λ xs. st.apps ++ xs) (root_apps_are root at s))
        (next_is s)

  mutual
    pub tree_after : (t : Tree) (rest : List Act) (st : Standing) → after w (steps_of t ++ rest) st ≡ after w rest (past_tree t st)
    tree_after (tree pre root post at) rest st =
        ap (λ xs. after w xs (stepped w None st)) (append_assoc (root_steps root) (Some (tree pre root post at) ∷ []) rest)
        ∙ root_after root (Some (tree pre root post at) ∷ rest) (stepped w None st)
        ∙ ap (after w rest) (closing pre root post at st)

    root_after : (root : Root) (rest : List Act) (st : Standing) → after w (root_steps root ++ rest) st ≡ after w rest (past_trees (root_args root) st)
    root_after (const v) rest st = ap (after w rest) (sym (past_no_trees st))
    root_after (var name) rest st = ap (after w rest) (sym (past_no_trees st))
    root_after (apply name at args) rest st = trees_after args rest st
    root_after (group parts) rest st = trees_after parts rest st

    trees_after : (ts : Trees) (rest : List Act) (st : Standing) → after w (all_steps ts ++ rest) st ≡ after w rest (past_trees ts st)
    trees_after none rest st = ap (after w rest) (sym (past_no_trees st))
    trees_after (more t ts) rest st =
        ap (λ xs. after w xs st) (append_assoc (steps_of t) (all_steps ts) rest)
        ∙ tree_after t (all_steps ts ++ rest) st ∙ trees_after ts rest (past_tree t st) ∙ ap (after w rest) (past_more_trees t ts st)

  -- all steps
  pub whole_after : (t : Tree) (st : Standing) → after w (steps_of t) st ≡ past_tree t st
  whole_after t st = ap (λ xs. after w xs st) (sym (append-nil (steps_of t))) ∙ tree_after t [] st

  pub after_both : (xs ys : List Act) (st : Standing) → after w (xs ++ ys) st ≡ after w ys (after w xs st)
  after_both [] ys st = refl
  after_both (x ∷ xs) ys st = after_both xs ys (stepped w x st)

  -- no step takes a number back
  step_grows : (a : Act) (st : Standing) → st.next.flow ≤ (stepped w a st).next.flow
  step_grows None st = omega arith
  step_grows (Some (tree pre root post at)) st = omega arith

  pub after_grows : (as' : List Act) (st : Standing) → st.next.flow ≤ (after w as' st).next.flow
  after_grows [] st = omega arith
  after_grows (a ∷ rest) st = omega (arith, step_grows a st, after_grows rest (stepped w a st))

  -- one step more
  pub at_next : (m₀ m m' : Made) (st : Standing) (a : Act) (list list' : List given_term.Term) (around around' : List (Vec given_term.Term Global)) → IsAt m₀ st list around m
      → IsAt m (stepped w a (start (given_of list) (given_around around) m.next)) list' around' m' → IsAt m₀ (stepped w a st) list' around' m'
  at_next m₀ m m' st a list list' around around' before now =
      moved a (subst (λ x. IsAt m (stepped w a (start st.list st.around x)) list' around' m') before.made.next_is
      (subst (λ x. IsAt m (stepped w a (start st.list x m.next)) list' around' m') before.around_are
      (subst (λ x. IsAt m (stepped w a (start x (given_around around) m.next)) list' around' m') before.list_is now)))
    where
      moved : (a : Act) → IsAt m (stepped w a (start st.list st.around st.next)) list' around' m' → IsAt m₀ (stepped w a st) list' around' m'
      moved None h = record {
        list_is = h.list_is;
        around_are = h.around_are;
        made = adds_as m₀ m' (st.flows ++ []) st.flows (st.apps ++ []) st.apps st.next st.next (adds_then m₀ m m' _ _ _ _ _ _ before.made h.made) (append-nil st.flows) (append-nil st.apps) refl;
      }
      moved (Some t) h = record {
        list_is = h.list_is;
        around_are = h.around_are;
        made = adds_then m₀ m m' _ _ _ _ _ _ before.made h.made;
      }
