-- The first repeat of a list, one name after another.
use Rattle.std.proofs.Common.{◌≡◌, ◌<◌, ℕ, ◌+◌, Bool, true, false, cond, List, [], ◌∷◌, ◌++◌, length, take, drop, map, filter, get_or, refl, sym, ap, ◌∙◌, Some, None, Option, add-one, drop-cons, append_assoc}
use Rattle.std.specs.List.{flat_map, slice_get}
use Rattle.std.specs.Option.{is_some, option_map, option_and_then}
use Rattle.std.proofs.lemmas.Option.{slice_get-map, slice_get_read}
use Rattle.prl_ast.specs.Trees.{EquationTree, NodeTree, ProgramTree, equation_tree, node_tree}
use Rattle.prl_ast.specs.declared.declarations.Equation.{Equation}
use Rattle.prl_ast.specs.declared.declarations.Node.{Node}
use Rattle.prl_ast.specs.declared.declarations.Placed.{Placed}
use Rattle.prl_names.specs.Vocabulary.{param_of, param_at, Mention, names_in, all_placed, placed_of, placed_param, is_among, repeat_after, first_of, repeat_in, earliest_repeat, lefts_of}
use Rattle.prl_names.specs.Vocabulary.{definition_space, global_spaces, port_space, flow_space, repeat_of}
use Rattle.prl_names.proofs.FirstIndices.{names_with}

pub placed_from : (ms : List Mention) (k : ℕ) (x : Mention) → k < length ms → x ≡ get_or ms k x → all_placed (drop k ms) ≡ placed_of x ∷ all_placed (drop (k + 1) ms)
placed_from ms k x below item = rw (add-one, drop-cons ms k x below, ← item) refl

pub repeat_here : (ms : List Mention) (k : ℕ) (x : Mention) → k < length ms → x ≡ get_or ms k x → is_among (names_in (take k ms)) x.name.now ≡ true →
    repeat_after (names_in (take k ms)) (all_placed (drop k ms)) ≡ Some (placed_of x)
repeat_here ms k x below item there = rw (placed_from ms k x below item, there) refl

pub repeat_later : (ms : List Mention) (k : ℕ) (x : Mention) → k < length ms → x ≡ get_or ms k x → is_among (names_in (take k ms)) x.name.now ≡ false →
    repeat_after (names_in (take k ms)) (all_placed (drop k ms)) ≡ repeat_after (names_in (take (k + 1) ms)) (all_placed (drop (k + 1) ms))
repeat_later ms k x below item absent = rw (placed_from ms k x below item, absent, names_with ms k x below item) refl

pub earliest_append : (b : Option Placed) (xs ys : List (List Placed)) → earliest_repeat b (xs ++ ys) ≡ earliest_repeat (earliest_repeat b xs) ys
earliest_append b [] ys = refl
earliest_append b (x ∷ xs) ys = earliest_append (first_of b (repeat_in x)) xs ys

pub filter_append : {A : Type 0} (p : A → Bool) (xs ys : List A) → filter p (xs ++ ys) ≡ filter p xs ++ filter p ys
filter_append p [] ys = refl
filter_append {A = A} p (x ∷ xs) ys =
    elim (p x) as (λ b. cond b (x ∷ filter p (xs ++ ys)) (filter p (xs ++ ys)) ≡ cond b (x ∷ filter p xs) (filter p xs) ++ filter p ys) [
      | true ↦ ap (λ (l : List A). x ∷ l) (filter_append p xs ys)
      | false ↦ filter_append p xs ys
    ]

abbrev lefts_in : List Equation → List Placed
lefts_in es = flat_map (λ (e : EquationTree). e.lefts) (map equation_tree es)

pub defined_from : (test : Placed → Bool) (es : List Equation) (k : ℕ) (e : Equation) (before : List Placed) → k < length es → e ≡ get_or es k e →
    (before ++ filter test e.lefts) ++ filter test (lefts_in (drop (k + 1) es)) ≡ before ++ filter test (lefts_in (drop k es))
defined_from test es k e before below item =
    let next : drop k es ≡ e ∷ drop (k + 1) es = rw (add-one, drop-cons es k e below, ← item) refl in
    rw (next, filter_append test e.lefts (lefts_in (drop (k + 1) es))) (append_assoc before (filter test e.lefts) (filter test (lefts_in (drop (k + 1) es))))

pub node_at : (nodes : List Node) (k : ℕ) (x : Node) → k < length nodes → x ≡ get_or nodes k x → slice_get (map node_tree nodes) k ≡ Some (node_tree x)
node_at nodes k x below item = slice_get-map node_tree nodes k ∙ ap (option_map node_tree) (slice_get_read nodes (length nodes) k x refl below item)

pub definitions_at : (p : ProgramTree) (k : ℕ) (n : NodeTree) → slice_get p.nodes k ≡ Some n →
    map placed_param n.ins ++ filter (λ (l : Placed). is_some (param_at p k l.name)) (lefts_of n) ≡ definition_space n
definitions_at p k n there =
    ap (λ o. map placed_param n.ins ++ filter (λ (l : Placed). is_some (option_and_then (λ m. param_of m l.name) o)) (lefts_of n)) there

pub defined_step : (nodes : List Node) (k : ℕ) (x : Node) (first next : Option Placed) (space : List Placed) → k < length nodes → x ≡ get_or nodes k x →
    space ≡ definition_space (node_tree x) → next ≡ first_of first (repeat_in space) →
    earliest_repeat next (map definition_space (map node_tree (drop (k + 1) nodes))) ≡ earliest_repeat first (map definition_space (map node_tree (drop k nodes)))
defined_step nodes k x first next space below item is step =
    let later : drop k nodes ≡ x ∷ drop (k + 1) nodes = rw (add-one, drop-cons nodes k x below, ← item) refl in
    rw (later, step, is) refl

pub spaces_in_turn : (p : ProgramTree) (a b c : Option Placed) → a ≡ earliest_repeat None (global_spaces p) → b ≡ earliest_repeat a (map port_space p.imports) →
    c ≡ earliest_repeat b (map flow_space p.nodes) → earliest_repeat c (map definition_space p.nodes) ≡ repeat_of p
unfolding repeat_of
spaces_in_turn p a b c first second third =
    let globals = global_spaces p in
    let ports = map port_space p.imports in
    let flows = map flow_space p.nodes in
    let defined = map definition_space p.nodes in
    let all = earliest_append None ((globals ++ ports) ++ flows) defined ∙ ap (λ x. earliest_repeat x defined) (earliest_append None (globals ++ ports) flows
    ∙ ap (λ x. earliest_repeat x flows) (earliest_append None globals ports)) in
    ap (λ x. earliest_repeat x defined) (third ∙ ap (λ x. earliest_repeat x flows) (second ∙ ap (λ x. earliest_repeat x ports) first)) ∙ sym all
