use Rattle.std.proofs.Common.{length, rules}
use Rattle.prl_shapes.specs.Shapes.{shapes_of_row}
use Rattle.prl_shapes.proofs.Counts.{flattened}
use Rattle.prl_shapes.proofs.shapes.shapes_of.Goals as goal

pub loop-row-preserved : goal.loop-row-preserved
loop-row-preserved c =
    flattened (shapes_of_row c.args.plan.now c.args.shown.now c.args.view.now) c.loop-row.shapes.items c.push_jobs.new.shapes.items _ c.loop-row.row (length c.args.view.now.rows)
    (search rules) c.in_ok-push_jobs.ensures c.loop-row.invariant
