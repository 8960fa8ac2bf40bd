use Rattle.prl_base.proofs.Standard.{◌≡◌, ◌+◌, ◌∙◌, ℕ, List, length, set, ap, sym, subst, arith, Fits-of_lt}
use Rattle.prl_plan.specs.declared.graphs.TaskGraph.{TaskGraph}
use Rattle.prl_ages.specs.code.Rising.{AreFound}
use Rattle.prl_ages.proofs.Counted.{job_small, first_found, none_counted}
use Rattle.prl_ages.proofs.needs.first_counts.Goals as goal

pub overflow_add-k : goal.overflow_add-k
overflow_add-k c = (let k = job_small c.args.plan.now.graph c.graph.ensures.plan.graph c.args.a.0 c.args.k c.requires.task c.requires.small in Fits-of_lt (omega (arith, k)))

pub returns : goal.returns
returns c =
    let count : c.len.result ≡ length c.args.plan.now.graph.tasks = c.len.ensures ∙ ap (λ (g : TaskGraph). length g.tasks) c.graph.ensures.graph in
    let made : c.in_ok-counts.counts.items ≡ none_counted (length c.args.plan.now.graph.tasks) =
    c.in_ok-counts.ensures.items_if_clones_equal (λ y h. h) ∙ ap none_counted count in
    subst (λ (xs : List ℕ). AreFound c.args.plan.now.graph c.args.chain.now c.args.a.0 c.args.k (set xs c.args.a.0 (c.args.k + 1))) (sym made)
    (first_found c.args.plan.now.graph c.args.chain.now c.args.a.0 c.args.k c.requires.task)
