use Rattle.prl_base.proofs.Standard.{[], arith, slice_get-get_or}
use Rattle.prl_dates.proofs.Lowering.{lowered_both, hold_next, hold_ends}
use Rattle.prl_dates.proofs.latest.lower_all.Goals as goal

pub loop-job-preserved : goal.loop-job-preserved
loop-job-preserved c = record {
  dates = c.in_ok-lower_before.ensures.dates;
  lowered =
      lowered_both c.args.graph.now c.args.dates.now c.loop-job.dates c.lower_before.new.dates [] c.loop-job.fell.items c.lower_before.new.fell.items c.loop-job.invariant.lowered
      c.in_ok-lower_before.ensures.lowered;
  hold =
      hold_next c.args.graph.now c.args.lanes.now c.args.fallen.now c.loop-job.job-index _ (slice_get-get_or c.args.fallen.now c.loop-job.job-index 0 (omega arith)) c.loop-job.dates
      c.lower_before.new.dates c.loop-job.fell.items c.lower_before.new.fell.items c.loop-job.invariant.hold c.in_ok-lower_before.ensures.lowered c.in_ok-lower_before.ensures.hold;
}

pub returns-clause-hold : goal.returns-clause-hold
returns-clause-hold c =
    hold_ends c.args.graph.now c.args.lanes.now c.args.fallen.now c.loop-job.job-index c.loop-job.dates c.loop-job.fell.items c.loop-job.invariant.hold (omega arith)
