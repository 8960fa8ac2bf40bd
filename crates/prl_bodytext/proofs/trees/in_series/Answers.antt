use Rattle.prl_base.proofs.Standard.{◌≡◌, ◌<◌, ◌==◌, ℕ, zero, suc, false, sym, ap, ◌∙◌, arith, false≢true}
use Rattle.prl_body.specs.Texts.{series, tree_of, pair_trees}
use Rattle.prl_body.proofs.TextSeries.{tree_of_Series}
use Rattle.prl_bodytext.proofs.RightTrees.{some_rights}
use Rattle.prl_bodytext.proofs.trees.in_series.Goals as goal

some : (n : ℕ) → (n == 0) ≡ false → 0 < n
some zero h = absurd (false≢true (sym h))
some (suc n) h = omega arith

pub returns : goal.returns
returns c =
    let rights = c.args.rights in
    tree_of_Series c.in_ok-first.first rights
    ∙ ap (λ e. series (tree_of e) (pair_trees rights.items)) (c.in_ok-first.ensures.ok)
    ∙ some_rights (tree_of c.args.first) rights.items (omega (arith, some rights.len (sym c.is_empty.ensures ∙ c.if-is_empty.false), rights.ok.0))
