use Rattle.prl_base.proofs.Standard.{List, ℕ, ◌∙◌, sym, subst, with_items_is}
use Rattle.prl_ages.specs.Needs.{AreNeeded}
use Rattle.prl_ages.proofs.Counted.{settled_needed}
use Rattle.prl_ages.proofs.needs.needed.Goals as goal

pub returns : goal.returns
returns c =
    let new = c.settle.new.counts in
    subst (λ (xs : List ℕ). AreNeeded c.args.plan.now.graph c.args.chain.now c.args.a.0 c.args.k xs)
    (sym (with_items_is c.in_ok-counts.counts new (c.settle.auto.counts ∙ c.as_mut_slice.ensures.len)))
    (settled_needed c.args.plan.now.graph c.args.chain.now c.graph-graph.ensures.plan.graph c.args.a.0 c.args.k new c.settle.ensures.found c.settle.ensures.settled)
