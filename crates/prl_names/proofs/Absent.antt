-- Parameters whose names are not in a table.
use Rattle.prl_base.proofs.Standard.{◌≡◌, ℕ, Bool, List, [], ◌∷◌, ◌++◌, map, refl, sym, ap, ◌∙◌, Some, None, Option, map-map}
use Rattle.std.specs.Option.{is_some}
use Rattle.prl_ast.specs.Trees.{NodeTree}
use Rattle.prl_ast.specs.declared.declarations.Param.{Param}
use Rattle.prl_ast.specs.declared.declarations.Placed.{Placed}
use Rattle.prl_names.specs.Vocabulary.{Mention, names_in, all_placed, placed_of, is_among, lefts_of, found, AreIndices, either_name, unless, absent_by, absent_from, left_names, undefined_in}
use Rattle.prl_names.proofs.Params.{Table}

absent_same : (f g : List ℕ → Bool) → ((n : List ℕ) → f n ≡ g n) → (ps : List Param) → absent_by f ps ≡ absent_by g ps
absent_same f g same [] = refl
absent_same f g same (p ∷ ps) = rw (same p.name, absent_same f g same ps) refl

either_assoc : (a b c : Option (List ℕ)) → either_name a (either_name b c) ≡ either_name (either_name a b) c
either_assoc None b c = refl
either_assoc (Some n) b c = refl

absent_append : (f : List ℕ → Bool) (ps qs : List Param) → absent_by f (ps ++ qs) ≡ either_name (absent_by f ps) (absent_by f qs)
absent_append f [] qs = refl
absent_append f (p ∷ ps) qs = rw (absent_append f ps qs) (either_assoc (unless (f p.name) p.name) (absent_by f ps) (absent_by f qs))

pub absent_in_table : (table : Table) (names : List (List ℕ)) → AreIndices table names → (ps : List Param) → absent_by (λ n. is_some (found table n)) ps ≡ absent_from names ps
absent_in_table table names indices ps = absent_same (λ n. is_some (found table n)) (is_among names) (λ n. ap is_some (indices n)) ps

absent_left : (table : Table) (ms : List Mention) (node : NodeTree) (ps : List Param) → all_placed ms ≡ lefts_of node → AreIndices table (names_in ms) →
    absent_by (λ n. is_some (found table n)) ps ≡ absent_from (left_names node) ps
absent_left table ms node ps is indices =
    absent_in_table table (names_in ms) indices ps
    ∙ ap (λ ns. absent_from ns ps) (sym (map-map (λ (p : Placed). p.name) placed_of ms) ∙ ap (map (λ (p : Placed). p.name)) is)

pub absent_output : (table : Table) (ms : List Mention) (node : NodeTree) (name : List ℕ) → all_placed ms ≡ lefts_of node → AreIndices table (names_in ms) →
    Some name ≡ absent_by (λ n. is_some (found table n)) node.outs → Some name ≡ undefined_in node
absent_output table ms node name is indices first =
    let outs = absent_left table ms node node.outs is indices in
    rw (absent_append (is_among (left_names node)) node.outs node.locals, ← outs, ← first) refl

pub absent_local : (table : Table) (ms : List Mention) (node : NodeTree) → all_placed ms ≡ lefts_of node → AreIndices table (names_in ms) →
    None ≡ absent_by (λ n. is_some (found table n)) node.outs → absent_by (λ n. is_some (found table n)) node.locals ≡ undefined_in node
absent_local table ms node is indices first =
    let outs = absent_left table ms node node.outs is indices in
    let locals = absent_left table ms node node.locals is indices in
    rw (absent_append (is_among (left_names node)) node.outs node.locals, ← outs, ← first) locals
