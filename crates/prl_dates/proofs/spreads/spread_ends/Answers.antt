use Rattle.prl_base.proofs.Standard.{◌≡◌, ℕ, List, length, sym, ◌∙◌, ap, subst, arith, with_items_is}
use Rattle.prl_plan.specs.Graphs.{jobs_in_hyperperiod}
use Rattle.prl_plan.specs.declared.graphs.TaskGraph.{TaskGraph}
use Rattle.prl_dates.specs.Vocabulary.{Lane, AreLanes, AreEachLane, AreEndsAcross, HasCeiling, IsLeastAbove, AreSpreadEnds}
use Rattle.prl_dates.proofs.SpreadDates.{within, each_within, across_ceiling, spread_made, ends_long}
use Rattle.prl_dates.proofs.spreads.spread_ends.Goals as goal
use Rattle.prl_dates.proofs.spreads.spread_ends.Goals.{After-as_slice}

lanes_are : (c : After-as_slice) → AreLanes c.args.plan.now.graph c.in_ok-lanes.lanes.items
lanes_are c = subst (λ (g : TaskGraph). AreLanes g c.in_ok-lanes.lanes.items) c.graph-graph.ensures.graph c.in_ok-lanes.ensures

pub ends_across-requires-clause-lanes : goal.ends_across-requires-clause-lanes
ends_across-requires-clause-lanes c =
    subst (λ (xs : List Lane). AreEachLane c.args.plan.now.graph xs) (sym c.as_slice.ensures.value)
    (lanes_are (goal.at.ends_across-requires-clause-lanes c).After-as_slice).each

-- what the ends across are for the plan's own lanes
made : (c : After-as_slice) (ends : List ℕ) → AreEndsAcross c.args.plan.now c.as_slice.result.now c.args.processors.now c.args.deadlines.now ends →
    AreEndsAcross c.args.plan.now c.in_ok-lanes.lanes.items c.args.processors.now c.args.deadlines.now ends
made c ends across = subst (λ (xs : List Lane). AreEndsAcross c.args.plan.now xs c.args.processors.now c.args.deadlines.now ends) c.as_slice.ensures.value across

pub raise_within-requires-clause-lanes : goal.raise_within-requires-clause-lanes
raise_within-requires-clause-lanes c =
    let d = (goal.at.raise_within-requires-clause-lanes c).After-as_slice in
    subst (λ (g : TaskGraph). AreEachLane g c.as_slice-2.result.now) (sym c.graph-graph.ensures.graph)
    (subst (λ (xs : List Lane). AreEachLane c.args.plan.now.graph xs) (sym (c.as_slice-2.ensures.value ∙ c.keep_within.ensures))
    (each_within c.args.plan.now c.graph-graph.ensures.plan c.args.processors.now _ (lanes_are d) c.args.deadlines.now c.requires _ (made d _ c.in_ok-ends.ensures)))

pub raise_within-requires-clause-long : goal.raise_within-requires-clause-long
raise_within-requires-clause-long c =
    let d = (goal.at.raise_within-requires-clause-long c).After-as_slice in
    ap (λ (xs : List ℕ). length xs) c.as_mut_slice.ensures.value
    ∙ ends_long c.args.plan.now c.graph-graph.ensures.plan c.args.processors.now _ (lanes_are d) c.args.deadlines.now c.requires _ (made d _ c.in_ok-ends.ensures)
    ∙ ap (λ (g : TaskGraph). jobs_in_hyperperiod g) (sym c.graph-graph.ensures.graph)

pub raise_within-requires-clause-ceiling : goal.raise_within-requires-clause-ceiling
raise_within-requires-clause-ceiling c =
    let d = (goal.at.raise_within-requires-clause-ceiling c).After-as_slice in
    subst (λ (g : TaskGraph). HasCeiling g c.as_slice-2.result.now c.as_mut_slice.result.now) (sym c.graph-graph.ensures.graph)
    (subst (λ (xs : List Lane). HasCeiling c.args.plan.now.graph xs c.as_mut_slice.result.now) (sym (c.as_slice-2.ensures.value ∙ c.keep_within.ensures))
    (subst (λ (xs : List ℕ). HasCeiling c.args.plan.now.graph (within c.args.processors.now c.in_ok-lanes.lanes.items) xs) (sym c.as_mut_slice.ensures.value)
    (across_ceiling c.args.plan.now c.graph-graph.ensures.plan c.args.processors.now _ (lanes_are d) c.args.deadlines.now c.requires _ (made d _ c.in_ok-ends.ensures))))

pub returns : goal.returns
returns c =
    let plan = c.args.plan.now in
    let processors = c.args.processors.now in
    let lanes = c.in_ok-lanes.lanes.items in
    let across = c.in_ok-ends.ends.items in
    let ends = c.raise_within.new.ends in
    let d = (goal.at.returns c).After-as_slice in
    let least : IsLeastAbove plan.graph (within processors lanes) across ends =
    subst (λ (g : TaskGraph). IsLeastAbove g (within processors lanes) across ends) c.graph-graph.ensures.graph
    (subst (λ (xs : List Lane). IsLeastAbove c.graph-graph.result.now xs across ends) (c.as_slice-2.ensures.value ∙ c.keep_within.ensures)
    (subst (λ (xs : List ℕ). IsLeastAbove c.graph-graph.result.now c.as_slice-2.result.now xs ends) c.as_mut_slice.ensures.value c.in_ok-raise_within.ensures)) in
    let long : length ends ≡ c.in_ok-ends.ends.len = omega (arith, least.long, c.in_ok-ends.ends.ok.0) in
    subst (λ (xs : List ℕ). AreSpreadEnds plan processors xs) (sym (with_items_is c.in_ok-ends.ends ends long))
    (spread_made plan c.graph-graph.ensures.plan processors lanes (lanes_are d) c.args.deadlines.now c.requires across (made d across c.in_ok-ends.ensures) ends least)
