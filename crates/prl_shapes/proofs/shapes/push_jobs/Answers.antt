use Rattle.prl_shapes.specs.Shapes.{shape_of}
use Rattle.prl_shapes.proofs.Counts.{mapped}
use Rattle.prl_shapes.proofs.shapes.push_jobs.Goals as goal

pub loop-n-preserved : goal.loop-n-preserved
loop-n-preserved c =
    mapped (shape_of c.args.plan.now c.args.shown.now c.args.view.now c.args.row) c.loop-n.shapes.items c.push.new.self.items _ c.shape_of.result c.loop-n.n c.job_count-last.result
    c.loop-n-test.true c.shape_of.ensures c.in_ok-push.ensures.items c.loop-n.invariant
