use Rattle.prl_base.proofs.Standard.{◌≡◌, ◌+◌, ◌∙◌, ℕ, List, length, Some, sym, subst, arith, ◌==◌, slice_get, slice_index, eq-eqb, eqb-true, both_ways}
use Rattle.prl_plan.specs.Jobs.{task_at}
use Rattle.prl_dates.specs.Vocabulary.{IsLane, AreRaised, AreRaisedAcross}
use Rattle.prl_dates.proofs.Readings.{item_stands}
use Rattle.prl_dates.proofs.RoundSteps.{links_from, links_to}
use Rattle.prl_dates.proofs.SpreadRounds.{across_more, across_same}
use Rattle.prl_dates.proofs.spreads.raise_across.Goals as goal
use Rattle.prl_dates.proofs.spreads.raise_across.Goals.{After-index-lanes-l, then-not-is_within, else-not-is_within}

lane_is : (c : After-index-lanes-l) → IsLane c.args.graph.now c.index-lanes-l.result
lane_is c = c.requires.lanes c.loop-l.l c.index-lanes-l.result (item_stands c.args.lanes.now c.loop-l.l c.index-lanes-l.result c.loop-l-test.true c.index-lanes-l.is)

pub wcet_of-wcet-requires : goal.wcet_of-wcet-requires
wcet_of-wcet-requires c = (lane_is (goal.at.wcet_of-wcet-requires c).After-index-lanes-l).to

pub raise-requires-clause-from : goal.raise-requires-clause-from
raise-requires-clause-from c k inside =
    let is = lane_is (goal.at.raise-requires-clause-from c).After-index-lanes-l in
    omega (arith, links_from c.args.graph.now c.requires.well c.index-lanes-l.result is k inside, c.requires.deadlines)

pub raise-requires-clause-to : goal.raise-requires-clause-to
raise-requires-clause-to c =
    let is = lane_is (goal.at.raise-requires-clause-to c).After-index-lanes-l in
    omega (arith, links_to c.args.graph.now c.requires.well c.index-lanes-l.result is, c.requires.ends, c.loop-l.invariant.long)

pub loop-l-preserved : goal.loop-l-preserved
loop-l-preserved c =
    let graph = c.args.graph.now in
    let lanes = c.args.lanes.now in
    let processors = c.args.processors.now in
    let now = c.args.deadlines.now in
    let old = c.args.ends.now in
    let l = c.loop-l.l in
    let lane = c.index-lanes-l.result in
    let stands : slice_get lanes l ≡ Some lane = item_stands lanes l lane c.loop-l-test.true c.index-lanes-l.is in
    elim c.if-not-is_within.branch [
      | then-not-is_within w ↦
          (let raised : AreRaised lane (task_at graph lane.to.0).wcet (length lane.links) now c.loop-l.ends w.raise.new.next =
          subst (λ (x : ℕ). AreRaised lane x (length lane.links) now c.loop-l.ends w.raise.new.next) c.wcet_of-wcet.ensures w.raise.ensures in
          subst (λ (xs : List ℕ). AreRaisedAcross graph lanes processors (l + 1) now old xs) (sym w.ends-is)
          (across_more graph lanes processors l lane stands now old c.loop-l.ends c.loop-l.invariant
          (λ together. both_ways (slice_index processors lane.from.0 == slice_index processors lane.to.0) (sym c.is_within.ensures ∙ w.if-not-is_within.true)
          (eq-eqb (slice_index processors lane.from.0) (slice_index processors lane.to.0) together)) w.raise.new.next raised))
      | else-not-is_within w ↦
          subst (λ (xs : List ℕ). AreRaisedAcross graph lanes processors (l + 1) now old xs) (sym w.ends-is)
          (across_same graph lanes processors l lane stands now old c.loop-l.ends c.loop-l.invariant
          (eqb-true (slice_index processors lane.from.0) (slice_index processors lane.to.0) (sym c.is_within.ensures ∙ w.if-not-is_within.false)))
    ]
