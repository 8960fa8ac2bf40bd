use Rattle.prl_causal.proofs.Meanings.{undelayed_sources, inside_sources, order_is, no_cycle, on_undelayed, on_inside}
use Rattle.prl_causal.proofs.causality.ordered.Goals as goal

pub has_order-requires : goal.has_order-requires
has_order-requires c = inside_sources c.args.uses.flat.now c.args.uses.inside.now c.flows-flows.ensures.well_formed c.requires.inside

pub order-requires : goal.order-requires
order-requires c = undelayed_sources c.args.uses.flat.now c.args.uses.undelayed.now c.flows-flows.ensures.well_formed c.requires.undelayed

pub returns-in-Some-clause-order : goal.returns-in-Some-clause-order
returns-in-Some-clause-order c =
    rw c.new.ensures (order_is c.args.uses.flat.now c.args.uses.undelayed.now c.in-Some.flows.items c.requires.undelayed (rw c.in-Some.is at c.in_ok-flows.ensures))

pub returns-in-Some-clause-acyclic : goal.returns-in-Some-clause-acyclic
returns-in-Some-clause-acyclic c =
    let by_step = c.in_ok-has_order.ensures.yes c.if-not-branch.false in
    no_cycle c.args.uses.flat.now c.args.uses.undelayed.now c.args.uses.inside.now c.in-Some.flows.items by_step.0 c.requires.undelayed c.requires.inside
    (rw c.in-Some.is at c.in_ok-flows.ensures) by_step.1

pub returns-then-not-branch-clause-cycle : goal.returns-then-not-branch-clause-cycle
returns-then-not-branch-clause-cycle c =
    let back = c.in_ok-has_order.ensures.no c.if-not-branch.true in
    (back.0, on_inside c.args.uses.flat.now c.args.uses.inside.now back.0 c.requires.inside back.1)

pub returns-in-None-clause-cycle : goal.returns-in-None-clause-cycle
returns-in-None-clause-cycle c =
    let back = rw c.in-None.is at c.in_ok-flows.ensures in
    (back.0, on_undelayed c.args.uses.flat.now c.args.uses.undelayed.now back.0 c.requires.undelayed back.1)
