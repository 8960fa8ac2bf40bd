use Rattle.prl_base.proofs.Standard.{◌∙◌, ℕ, List, get_or, sym, ap, subst}
use Rattle.prl_plan.specs.declared.words.Word.{Word}
use Rattle.prl_plan.specs.Vocabulary.{IsFirstReader, edge_at}
use Rattle.prl_ages.proofs.Lagging.{prefix_first}
use Rattle.prl_ages.proofs.lags.constants_on.Goals as goal

pub returns-clause-first : goal.returns-clause-first
returns-clause-first c =
    let e = c.args.e.0 in
    let at = ap (λ (xs : List Word). get_or xs c.args.e.0 c.index-as_slice-e.result) (c.as_slice.ensures ∙ c.words.ensures) in
    subst (λ (n : ℕ). IsFirstReader (edge_at c.args.plan.now.graph c.args.e.0).ops n) (sym c.len.ensures)
    (prefix_first c.args.plan.now c.graph-graph.ensures.plan e c.requires (get_or c.as_slice.result.now c.args.e.0 c.index-as_slice-e.result) c.index-as_slice-e.result at)
