use Rattle.prl_base.proofs.Standard.{arith, slice_get-get_or}
use Rattle.prl_dates.proofs.Rises.{way_ends, asked_more, asked_ends}
use Rattle.prl_dates.proofs.exits.round_after.Goals as goal

pub raise_after-requires-clause-job : goal.raise_after-requires-clause-job
raise_after-requires-clause-job c =
    c.requires.settled.below c.loop-job.job-index _ (slice_get-get_or c.args.risen.now c.loop-job.job-index 0 (omega arith))

pub loop-job-preserved : goal.loop-job-preserved
loop-job-preserved c = record {
  way = c.in_ok-raise_after.ensures.under_way;
  asked =
      asked_more c.args.graph.now c.args.lanes.now c.args.risen.now c.loop-job.job-index c.args.now.now c.loop-job.next c.raise_after.new.next _ c.loop-job.invariant.asked
      (slice_get-get_or c.args.risen.now c.loop-job.job-index 0 (omega arith)) c.in_ok-raise_after.ensures.up c.in_ok-raise_after.ensures.asks;
}

pub returns-clause-round : goal.returns-clause-round
returns-clause-round c =
    way_ends c.args.graph.now c.args.lanes.now c.args.now.now c.loop-job.next c.loop-job.rises.items c.loop-job.invariant.way
    (asked_ends c.args.graph.now c.args.lanes.now c.args.risen.now c.loop-job.job-index c.args.now.now c.loop-job.next c.loop-job.invariant.asked (omega arith))
