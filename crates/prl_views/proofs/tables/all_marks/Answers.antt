use Rattle.std.proofs.Common.{length, rules}
use Rattle.prl_views.specs.Pieces.{row_marks}
use Rattle.prl_shapes.proofs.Counts.{flattened}
use Rattle.prl_views.proofs.tables.all_marks.Goals as goal

pub loop-row-preserved : goal.loop-row-preserved
loop-row-preserved c =
    flattened (row_marks c.args.checked.now.plan c.args.view.now c.args.checked.now.entries) c.loop-row.text.items c.push_row_marks.new.text.items _ c.loop-row.row
    (length c.args.view.now.rows) (search rules) c.in_ok-push_row_marks.ensures c.loop-row.invariant
