use Rattle.std.proofs.Common.{arith}
use Rattle.prl_io.proofs.WriteLemmas.{so_far_more}
use Rattle.prl_io.proofs.writing.write_all.Goals as goal

pub loop-rest-preserved : goal.loop-rest-preserved
loop-rest-preserved g c =
    (so_far_more _ _ _ c.loop-rest.invariant.0 c.in_ok-count.ensures.grown, omega (arith, c.in_ok-count.ensures.counted))
