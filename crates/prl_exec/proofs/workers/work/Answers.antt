use Rattle.std.specs.Vec.{vec_items}
use Rattle.prl_exec.proofs.Holding.{handed}
use Rattle.prl_exec.proofs.workers.work.Goals as goal

pub returns-in-Overrun-clause-kept : goal.returns-in-Overrun-clause-kept
returns-in-Overrun-clause-kept g c = handed (vec_items c.args.seats) c.new.ensures (λ i has. c.poll_all.ensures.kept i (c.loop.invariant.kept i has))

pub returns-then-is_done-clause-kept : goal.returns-then-is_done-clause-kept
returns-then-is_done-clause-kept g c = handed (vec_items c.args.seats) c.new-then-is_done.ensures (λ i has. c.is_done.ensures.kept i (c.poll_all.ensures.kept i (c.loop.invariant.kept i has)))

pub loop-preserved : goal.loop-preserved
loop-preserved g c = record {
  held = c.is_done.ensures.held;
  kept = λ i has. c.is_done.ensures.kept i (c.poll_all.ensures.kept i (c.loop.invariant.kept i has));
}
