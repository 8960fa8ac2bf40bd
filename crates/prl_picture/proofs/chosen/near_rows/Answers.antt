use Rattle.std.proofs.Common.{length, arith, rules}
use Rattle.prl_picture.specs.Chosen.{near_one}
use Rattle.prl_shapes.proofs.Counts.{flattened}
use Rattle.prl_picture.proofs.chosen.near_rows.Goals as goal

pub loop-j-preserved : goal.loop-j-preserved
loop-j-preserved c = record {
  told = flattened (near_one c.args.plan.now.graph c.args.i.0) c.loop-j.rows.items c.push_near.new.rows.items _ c.loop-j.j (length c.args.plan.now.graph.tasks)
      (search rules) c.in_ok-push_near.ensures.exact c.loop-j.invariant.told;
  inside = c.in_ok-push_near.ensures.inside c.loop-j.invariant.inside;
  few = omega (arith, c.in_ok-push_near.ensures.few, c.loop-j.invariant.few);
}
