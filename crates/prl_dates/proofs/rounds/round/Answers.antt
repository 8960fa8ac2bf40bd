use Rattle.prl_base.proofs.Standard.{ℕ, length, subst, arith}
use Rattle.prl_plan.specs.Jobs.{task_at}
use Rattle.prl_dates.specs.Vocabulary.{IsLane, AreRaised}
use Rattle.prl_dates.proofs.Readings.{item_stands}
use Rattle.prl_dates.proofs.RoundSteps.{round_more, links_from, links_to}
use Rattle.prl_dates.proofs.rounds.round.Goals as goal
use Rattle.prl_dates.proofs.rounds.round.Goals.{After-index-lanes-l}

lane_is : (c : After-index-lanes-l) → IsLane c.args.graph.now c.index-lanes-l.result
lane_is c = c.requires.lanes c.loop-l.l c.index-lanes-l.result (item_stands c.args.lanes.now c.loop-l.l c.index-lanes-l.result c.loop-l-test.true c.index-lanes-l.is)

pub wcet_of-requires : goal.wcet_of-requires
wcet_of-requires c = (lane_is (goal.at.wcet_of-requires c).After-index-lanes-l).to

pub raise-requires-clause-from : goal.raise-requires-clause-from
raise-requires-clause-from c k inside =
    let is = lane_is (goal.at.raise-requires-clause-from c).After-index-lanes-l in
    omega (arith, links_from c.args.graph.now c.requires.well c.index-lanes-l.result is k inside, c.requires.long)

pub raise-requires-clause-to : goal.raise-requires-clause-to
raise-requires-clause-to c =
    let is = lane_is (goal.at.raise-requires-clause-to c).After-index-lanes-l in
    omega (arith, links_to c.args.graph.now c.requires.well c.index-lanes-l.result is, c.requires.long, c.loop-l.invariant.long)

pub loop-l-preserved : goal.loop-l-preserved
loop-l-preserved c =
    let graph = c.args.graph.now in
    let lane = c.index-lanes-l.result in
    let raised : AreRaised lane (task_at graph lane.to.0).wcet (length lane.links) c.args.now.now c.loop-l.next c.raise.new.next =
    subst (λ (x : ℕ). AreRaised lane x (length lane.links) c.args.now.now c.loop-l.next c.raise.new.next) c.wcet_of.ensures c.raise.ensures in
    round_more graph c.args.lanes.now c.loop-l.l lane (item_stands c.args.lanes.now c.loop-l.l lane c.loop-l-test.true c.index-lanes-l.is) c.args.now.now c.loop-l.next c.loop-l.invariant
    c.raise.new.next raised
