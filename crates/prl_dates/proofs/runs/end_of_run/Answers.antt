use Rattle.prl_base.proofs.Standard.{arith, pos, ints}
use Rattle.prl_dates.proofs.runs.end_of_run.Goals as goal

pub returns-clause-same : goal.returns-clause-same
returns-clause-same c k after below =
    let high = c.requires.rises (pos k) (pos c.loop-step.last) (omega (arith, ints, below)) in
    omega (arith, ints, c.requires.rises (pos c.args.from) (pos k) (omega (arith, ints, after)), high, c.requires.value, c.loop-step.invariant.same.same)
