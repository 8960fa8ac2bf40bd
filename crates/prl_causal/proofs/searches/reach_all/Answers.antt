use Rattle.prl_causal.proofs.Searching.{adds_next}
use Rattle.prl_causal.proofs.searches.reach_all.Goals as goal

pub loop-arg-preserved : goal.loop-arg-preserved
loop-arg-preserved c =
    adds_next c.args.args.now c.loop-arg.arg-index _ c.args.reached.now.items c.loop-arg.reached.items c.reach.new.reached.items c.args.marks.now c.loop-arg.marks c.reach.new.marks
    c.loop-arg-test.true c.loop-arg.invariant c.in_ok-reach.ensures
