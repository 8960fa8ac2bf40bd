-- Rows of marks, one mark after another.
use Rattle.prl_base.proofs.Standard.{◌≡◌, ◌<◌, ◌||◌, ℕ, ◌+◌, zero, suc, Bool, true, false, cond, List, [], ◌∷◌, ◌++◌, length, take, map, get_or, refl, sym, ap, ◌∙◌, subst, Some, None, arith}
use Rattle.prl_base.proofs.Standard.{take_more, map-append, length-map, slice_get_within, option_map, bytes_eq}
use Rattle.prl_base.proofs.Standard.{bytes_decides}
use Rattle.std.specs.List.{slice_get}
use Rattle.prl_ast.specs.Trees.{NodeTree, ProgramTree, EquationTree, equation_tree, tree_of}
use Rattle.prl_ast.specs.declared.declarations.Equation.{Equation}
use Rattle.prl_ast.specs.declared.expressions.Expr.{Expr}
use Rattle.prl_names.specs.declared.lookups.Callee.TheVariants as callees
use Rattle.prl_names.specs.Vocabulary.{applied_in, applied_trees, applied_equations, all_trees, index_from, index_of, node_names, import_names, node_or, callee_of, mark_of, Adds}

or_assoc : (a b c : Bool) → ((a || b) || c) ≡ (a || (b || c))
or_assoc true b c = refl
or_assoc false b c = refl

or_true : (a : Bool) → (a || true) ≡ true
or_true true = refl
or_true false = refl

or_false : (a : Bool) → (a || false) ≡ a
or_false true = refl
or_false false = refl

pub adds_none : (row : List Bool) → Adds (λ j. false) row row
adds_none row = record { same = refl; each = λ j below. sym (or_false (mark_of row j)) }

pub adds_then : (f g : ℕ → Bool) (a b c : List Bool) → Adds f a b → Adds g b c → Adds (λ j. f j || g j) a c
adds_then f g a b c first second = record {
  same = second.same ∙ first.same;
  each = λ j below. (let below' : j < length b = rw first.same below in second.each j below' ∙ ap (λ m. m || g j) (first.each j below) ∙ or_assoc (mark_of a j) (f j) (g j));
}

pub adds_same : (f g : ℕ → Bool) (a b : List Bool) → ((j : ℕ) → f j ≡ g j) → Adds f a b → Adds g a b
adds_same f g a b same adds = record { same = adds.same; each = λ j below. adds.each j below ∙ ap (λ m. mark_of a j || m) (same j) }

-- the first of the names that is this one
found_from : (k : ℕ) (ns : List (List ℕ)) (q : List ℕ) (i : ℕ) → index_from k ns q ≡ Some i → (j : ℕ) × (i ≡ k + j) × (slice_get ns j ≡ Some q)
found_from k [] q i h = cc
found_from k (x ∷ xs) q i h =
    elim (bytes_eq x q) as (λ b. bytes_eq x q ≡ b → cond b (Some k) (index_from (k + 1) xs q) ≡ Some i → (j : ℕ) × (i ≡ k + j) × (slice_get (x ∷ xs) j ≡ Some q)) [
      | true ↦ λ e is. (let same : k ≡ i = cc in (zero, omega arith, ap (λ n. Some n) ((bytes_decides x q).0 e)))
      | false ↦ λ e is. (let found = found_from (k + 1) xs q i is in (suc found.0, omega arith, found.2))
    ] refl h

pub index_found : (ns : List (List ℕ)) (q : List ℕ) (i : ℕ) → index_of ns q ≡ Some i → slice_get ns i ≡ Some q
index_found ns q i h =
    let found = found_from 0 ns q i h in
    let same : found.0 ≡ i = omega arith in
    subst (λ j. slice_get ns j ≡ Some q) same found.2

pub index_below : {X : Type 0} (name : X → List ℕ) (xs : List X) (q : List ℕ) (i : ℕ) → index_of (map name xs) q ≡ Some i → i < length xs
index_below name xs q i h =
    let there = slice_get_within (map name xs) i q (index_found (map name xs) q i h) in
    rw length-map at there

pub callee_below : (p : ProgramTree) (name : List ℕ) (k : ℕ) → callee_of p name ≡ Some (callees.Node k) → k < length p.nodes
callee_below p name k h =
    elim (index_of (node_names p) name) as (λ o. index_of (node_names p) name ≡ o → node_or o (index_of (import_names p) name) ≡ Some (callees.Node k) → k < length p.nodes) [
      | Some n ↦ λ e is. (let same : n ≡ k = cc in index_below (λ (m : NodeTree). m.name) p.nodes name k (e ∙ ap (λ x. Some x) same))
      | None ↦ λ e is.
          elim (index_of (import_names p) name) as (λ o. option_map callees.Import o ≡ Some (callees.Node k) → k < length p.nodes) [
            | Some i ↦ λ no. cc
            | None ↦ λ no. cc
          ] is
    ] refl h

applied_push : (p : ProgramTree) (j : ℕ) (es : List Expr) (e : Expr) → applied_trees p j (all_trees (es ++ e ∷ [])) ≡ (applied_trees p j (all_trees es) || applied_in p j (tree_of e))
applied_push p j [] e = or_false (applied_in p j (tree_of e))
applied_push p j (x ∷ es) e =
    ap (λ b. applied_in p j (tree_of x) || b) (applied_push p j es e) ∙ sym (or_assoc (applied_in p j (tree_of x)) (applied_trees p j (all_trees es)) (applied_in p j (tree_of e)))

pub applied_step : (p : ProgramTree) (es : List Expr) (k : ℕ) (e : Expr) (a b c : List Bool) → k < length es → e ≡ get_or es k e →
    Adds (λ j. applied_trees p j (all_trees (take k es))) a b → Adds (λ j. applied_in p j (tree_of e)) b c → Adds (λ j. applied_trees p j (all_trees (take (k + 1) es))) a c
applied_step p es k e a b c below item first second =
    let more : take (k + 1) es ≡ take k es ++ e ∷ [] = rw (take_more es k e below, ← item) refl in
    adds_same (λ j. applied_trees p j (all_trees (take k es)) || applied_in p j (tree_of e)) (λ j. applied_trees p j (all_trees (take (k + 1) es))) a c
    (λ j. sym (ap (λ l. applied_trees p j (all_trees l)) more ∙ applied_push p j (take k es) e))
    (adds_then (λ j. applied_trees p j (all_trees (take k es))) (λ j. applied_in p j (tree_of e)) a b c first second)

equations_push : (p : ProgramTree) (j : ℕ) (es : List EquationTree) (e : EquationTree) → applied_equations p j (es ++ e ∷ []) ≡ (applied_equations p j es || applied_in p j e.right)
equations_push p j [] e = or_false (applied_in p j e.right)
equations_push p j (x ∷ es) e =
    ap (λ b. applied_in p j x.right || b) (equations_push p j es e) ∙ sym (or_assoc (applied_in p j x.right) (applied_equations p j es) (applied_in p j e.right))

pub equations_step : (p : ProgramTree) (es : List Equation) (k : ℕ) (e : Equation) (a b c : List Bool) → k < length es → e ≡ get_or es k e →
    Adds (λ j. applied_equations p j (map equation_tree (take k es))) a b → Adds (λ j. applied_in p j (tree_of e.right)) b c →
    Adds (λ j. applied_equations p j (map equation_tree (take (k + 1) es))) a c
equations_step p es k e a b c below item first second =
    let more : map equation_tree (take (k + 1) es) ≡ map equation_tree (take k es) ++ equation_tree e ∷ [] =
    rw (take_more es k e below, ← item) (map-append equation_tree (take k es) (e ∷ [])) in
    adds_same (λ j. applied_equations p j (map equation_tree (take k es)) || applied_in p j (tree_of e.right)) (λ j. applied_equations p j (map equation_tree (take (k + 1) es))) a c
    (λ j. sym (ap (applied_equations p j) more ∙ equations_push p j (map equation_tree (take k es)) (equation_tree e)))
    (adds_then (λ j. applied_equations p j (map equation_tree (take k es))) (λ j. applied_in p j (tree_of e.right)) a b c first second)
