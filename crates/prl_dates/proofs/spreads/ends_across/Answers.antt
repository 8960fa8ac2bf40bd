use Rattle.std.proofs.Common.{◌≡◌, ◌∙◌, ℕ, List, length, sym, subst}
use Rattle.prl_base.proofs.Standard.{with_items_is}
use Rattle.prl_plan.specs.Graphs.{jobs_in_hyperperiod}
use Rattle.prl_plan.specs.declared.graphs.TaskGraph.{TaskGraph}
use Rattle.prl_dates.specs.declared.spreads.Bound.TheVariants as bounds
use Rattle.prl_dates.specs.code.Lanes.{AreEachLane}
use Rattle.prl_dates.specs.code.Spreads.{AreEndsAcross, AreRaisedAcross}
use Rattle.prl_dates.proofs.SpreadDates.{table_long, deadlines_small}
use Rattle.prl_dates.proofs.spreads.ends_across.Goals as goal

pub raise_across-requires-clause-deadlines : goal.raise_across-requires-clause-deadlines
raise_across-requires-clause-deadlines c =
    subst (λ (g : TaskGraph). length c.args.deadlines.now ≡ jobs_in_hyperperiod g) (sym c.graph.ensures.graph)
    (table_long c.args.plan.now c.plan_is_one.ensures bounds.Deadline c.args.deadlines.now c.requires.deadlines)

pub raise_across-requires-clause-small : goal.raise_across-requires-clause-small
raise_across-requires-clause-small c = deadlines_small c.args.plan.now c.plan_is_one.ensures c.args.deadlines.now c.requires.deadlines

pub raise_across-requires-clause-lanes : goal.raise_across-requires-clause-lanes
raise_across-requires-clause-lanes c = subst (λ (g : TaskGraph). AreEachLane g c.args.lanes.now) (sym c.graph.ensures.graph) c.requires.lanes

pub raise_across-requires-clause-ends : goal.raise_across-requires-clause-ends
raise_across-requires-clause-ends c =
    subst (λ (xs : List ℕ). length xs ≡ jobs_in_hyperperiod c.graph.result.now) (sym c.as_mut_slice.ensures.value)
    (subst (λ (g : TaskGraph). length c.in_ok-ends.ends.items ≡ jobs_in_hyperperiod g) (sym c.graph.ensures.graph)
    (table_long c.args.plan.now c.plan_is_one.ensures bounds.End c.in_ok-ends.ends.items c.in_ok-ends.ensures))

pub returns : goal.returns
returns c =
    let plan = c.args.plan.now in
    let lanes = c.args.lanes.now in
    let new = c.raise_across.new.ends in
    let raised : AreRaisedAcross plan.graph lanes c.args.processors.now (length lanes) c.args.deadlines.now c.in_ok-ends.ends.items new =
    subst (λ (xs : List ℕ). AreRaisedAcross plan.graph lanes c.args.processors.now (length lanes) c.args.deadlines.now xs new) c.as_mut_slice.ensures.value
    (subst (λ (g : TaskGraph). AreRaisedAcross g lanes c.args.processors.now (length lanes) c.args.deadlines.now c.as_mut_slice.result.now new) c.graph.ensures.graph c.raise_across.ensures) in
    subst (λ (xs : List ℕ). AreEndsAcross plan lanes c.args.processors.now c.args.deadlines.now xs)
    (sym (with_items_is c.in_ok-ends.ends new (c.raise_across.auto.ends ∙ c.as_mut_slice.ensures.len)))
    (record { base = c.in_ok-ends.ends.items; of_base = c.in_ok-ends.ensures; raised = raised })
