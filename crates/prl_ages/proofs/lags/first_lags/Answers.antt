use Rattle.prl_base.proofs.Standard.{◌≡◌, ◌∙◌, ℕ, List, Option, Some, length, rules, set, ap, sym, subst}
use Rattle.prl_plan.specs.declared.graphs.TaskGraph.{TaskGraph}
use Rattle.prl_ages.specs.code.Lags.{AreLags}
use Rattle.prl_ages.proofs.Lagging.{first_known, none_known}
use Rattle.prl_ages.proofs.lags.first_lags.Goals as goal

pub returns : goal.returns
returns c =
    let count : c.len.result ≡ length c.args.plan.now.graph.tasks = c.len.ensures ∙ ap (λ (g : TaskGraph). length g.tasks) c.graph.ensures.graph in
    let made : c.in_ok-lags.lags.items ≡ none_known (length c.args.plan.now.graph.tasks) =
    c.in_ok-lags.ensures.items_if_clones_equal (λ y h. search (rules, h)) ∙ ap none_known count in
    subst (λ (xs : List (Option ℕ)). AreLags c.args.plan.now.graph c.args.chain.now c.args.a.0 (set xs c.args.a.0 (Some 0))) (sym made)
    (first_known c.args.plan.now.graph c.args.chain.now c.args.a.0 c.requires)
