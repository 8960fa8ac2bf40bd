use Rattle.prl_base.proofs.Standard.{◌<◌, ◌≤◌, ℕ, length, subst, arith}
use Rattle.prl_plan.specs.Jobs.{task_at}
use Rattle.prl_dates.specs.Vocabulary.{IsLane, RepeatsAlong}
use Rattle.prl_dates.proofs.Readings.{item_stands}
use Rattle.prl_dates.proofs.Repeats.{may_more}
use Rattle.prl_dates.proofs.RoundSteps.{links_from, links_to}
use Rattle.prl_dates.proofs.leaps.repeats.Goals as goal
use Rattle.prl_dates.proofs.leaps.repeats.Goals.{After-index-lanes-l}

lane_is : (c : After-index-lanes-l) → IsLane c.args.graph.now c.index-lanes-l.result
lane_is c = c.requires.lanes c.loop-l.l c.index-lanes-l.result (item_stands c.args.lanes.now c.loop-l.l c.index-lanes-l.result c.loop-l-test.true c.index-lanes-l.is)

pub wcet_of-requires : goal.wcet_of-requires
wcet_of-requires c = (lane_is (goal.at.wcet_of-requires c).After-index-lanes-l).to

pub repeats_over-times-requires-clause-from : goal.repeats_over-times-requires-clause-from
repeats_over-times-requires-clause-from c k inside =
    omega (arith, links_from c.args.graph.now c.requires.well c.index-lanes-l.result (lane_is (goal.at.repeats_over-times-requires-clause-from c).After-index-lanes-l) k inside, c.requires.long)

pub repeats_over-times-requires-clause-to : goal.repeats_over-times-requires-clause-to
repeats_over-times-requires-clause-to c =
    omega (arith, links_to c.args.graph.now c.requires.well c.index-lanes-l.result (lane_is (goal.at.repeats_over-times-requires-clause-to c).After-index-lanes-l), c.requires.long)

pub repeats_over-times-requires-clause-gap : goal.repeats_over-times-requires-clause-gap
repeats_over-times-requires-clause-gap c = (lane_is (goal.at.repeats_over-times-requires-clause-gap c).After-index-lanes-l).small

pub loop-l-preserved : goal.loop-l-preserved
loop-l-preserved c =
    let graph = c.args.graph.now in
    let lane = c.index-lanes-l.result in
    let times = c.repeats_over-times.result in
    let less : times ≤ c.loop-l.times = c.repeats_over-times.ensures.most in
    record {
      most = omega (arith, less, c.loop-l.invariant.most);
      along = λ some.
          (let here : (k : ℕ) → k < length lane.links → RepeatsAlong lane (task_at graph lane.to.0).wcet c.args.past.now c.args.now.now times k =
          subst (λ (x : ℕ). (k : ℕ) → k < length lane.links → RepeatsAlong lane x c.args.past.now c.args.now.now times k) c.wcet_of.ensures (c.repeats_over-times.ensures.repeats some) in
          may_more graph c.args.lanes.now c.loop-l.l lane (item_stands c.args.lanes.now c.loop-l.l lane c.loop-l-test.true c.index-lanes-l.is) c.args.past.now c.args.now.now times c.loop-l.times less
          (c.loop-l.invariant.along (omega (arith, some, less))) here);
    }
