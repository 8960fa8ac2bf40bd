use Rattle.prl_views.specs.Pieces.{piece_if}
use Rattle.prl_shapes.proofs.Counts.{flattened}
use Rattle.prl_views.proofs.tables.push_entry.Goals as goal

pub loop-n-preserved : goal.loop-n-preserved
loop-n-preserved c =
    flattened (piece_if c.args.plan.now.graph c.args.entry) c.loop-n.pieces.items c.push_job.new.pieces.items _ c.loop-n.n c.job_count-last.result
    c.loop-n-test.true c.in_ok-push_job.ensures c.loop-n.invariant
