use Rattle.std.proofs.Common.{◌+◌, ◌≤◌, arith}
use Rattle.prl_dates.specs.code.Indices.{jobs_before}
use Rattle.prl_dates.proofs.Readings.{before_few, before_next}
use Rattle.prl_dates.proofs.numbers.jobs_before.Goals as goal

pub overflow_add-jobs : goal.overflow_add-jobs
overflow_add-jobs c =
    let few : jobs_before c.args.graph.now (c.loop-i.i + 1) ≤ 20000 = before_few c.args.graph.now c.requires.well (c.loop-i.i + 1) (omega arith) in
    record { fits = omega (arith, few, before_next c.args.graph.now c.loop-i.i, c.loop-i.invariant, c.jobs_of-jobs.ensures.jobs) }

pub returns-clause-few : goal.returns-clause-few
returns-clause-few c = omega (arith, before_few c.args.graph.now c.requires.well c.loop-i.i (omega arith), c.loop-i.invariant)
