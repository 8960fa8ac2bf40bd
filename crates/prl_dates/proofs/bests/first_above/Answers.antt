use Rattle.std.proofs.Common.{arith}
use Rattle.prl_dates.proofs.Readings.{indices_inside}
use Rattle.prl_dates.proofs.bests.first_above.Goals as goal

pub above_in-requires-clause-high : goal.above_in-requires-clause-high
above_in-requires-clause-high c =
    omega (arith, indices_inside c.args.graph.now c.loop-i.i (omega (arith, c.len-i-end.ensures)), c.requires.high, c.jobs_before-first.ensures.jobs, c.jobs_of-count.ensures.jobs)

pub above_in-requires-clause-low : goal.above_in-requires-clause-low
above_in-requires-clause-low c =
    omega (arith, indices_inside c.args.graph.now c.loop-i.i (omega (arith, c.len-i-end.ensures)), c.requires.low, c.jobs_before-first.ensures.jobs, c.jobs_of-count.ensures.jobs)
