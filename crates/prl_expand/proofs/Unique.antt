-- A program has one expansion.
use Rattle.prl_base.proofs.Standard.{◌≡◌, ℕ, List, length, sym, ap, ◌∙◌, range_with_len}
use Rattle.prl_ast.specs.Trees.{ProgramTree}
use Rattle.prl_causal.proofs.Shapes.{as_many, one_text}
use Rattle.prl_expand.specs.Expansions.{Expansion, IsExpansion, AreCounted}

same_counted : (xs ys : List ℕ) → AreCounted xs → AreCounted ys → length xs ≡ length ys → xs ≡ ys
same_counted xs ys a b e = a ∙ ap (range_with_len 0) e ∙ sym b

pub one_expansion : (p : ProgramTree) (main : ℕ) (a b : Expansion) → IsExpansion p main a → IsExpansion p main b → a ≡ b
one_expansion p main a b x y =
    let many = as_many p main a b x.text y.text in
    one_text p main a b x.text y.text (same_counted _ _ x.flows y.flows many.0) (same_counted _ _ x.imports y.imports many.1) (same_counted _ _ x.nodes y.nodes many.2)
