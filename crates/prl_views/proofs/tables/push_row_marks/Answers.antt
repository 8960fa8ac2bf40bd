use Rattle.prl_views.specs.Pieces.{done_text}
use Rattle.prl_shapes.proofs.Counts.{flattened}
use Rattle.prl_views.proofs.tables.push_row_marks.Goals as goal

pub loop-n-preserved : goal.loop-n-preserved
loop-n-preserved c =
    flattened (done_text c.args.checked.now.plan c.args.view.now c.args.checked.now.entries c.args.row) c.loop-n.text.items c.push_done.new.text.items _ c.loop-n.n
    c.job_count-last.result c.loop-n-test.true c.in_ok-push_done.ensures c.loop-n.invariant
