-- Expressions that are printed one after another.
use Rattle.prl_base.proofs.Standard.{◌≡◌, ◌+◌, ◌<◌, ℕ, suc, codes, List, [], ◌∷◌, ◌++◌, map, length, take, get_or, Result, Ok, Err, OnOk, sym, ap, ◌∙◌, arith, append_assoc, nat_tests, append-nil}
use Rattle.prl_base.proofs.Standard.{take_more, map_push, length-map, length-take-le}
use Rattle.prl_ast.specs.Trees.{Tree, tree_of}
use Rattle.prl_ast.specs.declared.expressions.Expr.{Expr}
use Rattle.prl_syntax.specs.Trees.{trees_from}
use Rattle.prl_print.specs.Printing.{comma_before, printed_tree, printed_trees, printed_others}

others_push : (ts : List Tree) (t : Tree) → printed_others (trees_from (ts ++ t ∷ [])) ≡ printed_others (trees_from ts) ++ (codes ", " ++ printed_tree t)
others_push [] t = append-nil (codes ", " ++ printed_tree t)
others_push (s ∷ ts) t = simp (others_push ts t, append_assoc)

trees_push : (ts : List Tree) (t : Tree) → printed_trees (trees_from (ts ++ t ∷ [])) ≡ printed_trees (trees_from ts) ++ comma_before (length ts) ++ printed_tree t
trees_push [] t = append-nil (printed_tree t)
trees_push (s ∷ ts) t =
    let comma : comma_before (suc (length ts)) ≡ codes ", " = grind (arith, nat_tests) in
    simp (others_push ts t, comma, append_assoc)

-- one expression more
pub enclosed_more : (start text between text' : List ℕ) (xs : List Expr) (i : ℕ) (x : Expr) → i < length xs → x ≡ get_or xs i x
    → text ≡ start ++ printed_trees (trees_from (map tree_of (take i xs))) → between ≡ text ++ comma_before i → text' ≡ between ++ printed_tree (tree_of x)
    → text' ≡ start ++ printed_trees (trees_from (map tree_of (take (i + 1) xs)))
enclosed_more start text between text' xs i x lt is e f g =
    let front : List Tree = map tree_of (take i xs) in
    let many : length front ≡ i = length-map (take i xs) tree_of ∙ length-take-le i xs (omega arith) in
    let trees : map tree_of (take (i + 1) xs) ≡ front ++ tree_of x ∷ [] = ap (map tree_of) (take_more xs i x lt ∙ ap (λ y. take i xs ++ y ∷ []) (sym is)) ∙ map_push tree_of (take i xs) x in
    simp (g, f, e, trees, trees_push front (tree_of x), many, append_assoc)

-- a text in parentheses is one of the tree's
pub ok_as : {E : Type 0} (r : Result (Unit {0}) E) (new old a b : List ℕ) → a ≡ b → OnOk r (new ≡ old ++ a) → OnOk r (new ≡ old ++ b)
ok_as (Ok x) new old a b e h = h ∙ ap (λ t. old ++ t) e
ok_as (Err s) new old a b e h = tt

pub ok_after : {E : Type 0} (r : Result (Unit {0}) E) (new text old a b : List ℕ) → text ≡ old ++ a → OnOk r (new ≡ text ++ b) → OnOk r (new ≡ old ++ (a ++ b))
ok_after (Ok x) new text old a b e h = h ∙ ap (λ t. t ++ b) e ∙ append_assoc old a b
ok_after (Err s) new text old a b e h = tt

-- texts that are appended one after another
pub joined_seven : (old a b c d e f g t1 t2 t3 t4 t5 t6 t7 : List ℕ) → t1 ≡ old ++ a → t2 ≡ t1 ++ b → t3 ≡ t2 ++ c → t4 ≡ t3 ++ d → t5 ≡ t4 ++ e → t6 ≡ t5 ++ f → t7 ≡ t6 ++ g
    → t7 ≡ old ++ (a ++ b ++ c ++ d ++ e ++ f ++ g)
joined_seven old a b c d e f g t1 t2 t3 t4 t5 t6 t7 h1 h2 h3 h4 h5 h6 h7 = simp (h7, h6, h5, h4, h3, h2, h1, append_assoc)
