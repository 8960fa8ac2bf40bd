use Rattle.prl_base.proofs.Standard.{◌+◌, ◌*◌, ap, arith, Fits-of_lt}
use Rattle.prl_base.specs.declared.operators.Clock.{Clock}
use Rattle.prl_ages.proofs.ages.released.Goals as goal

pub overflow_mul-result : goal.overflow_mul-result
overflow_mul-result c =
    let e = ap (λ (k : Clock). c.args.n * k.period) c.clock_of-clock.ensures.clock in
    Fits-of_lt (omega (arith, e, c.requires.small))

pub overflow_add-result : goal.overflow_add-result
overflow_add-result c =
    let e = ap (λ (k : Clock). k.start + c.args.n * k.period) c.clock_of-clock.ensures.clock in
    Fits-of_lt (omega (arith, e, c.requires.small))

pub returns : goal.returns
returns c = ap (λ (k : Clock). k.start + c.args.n * k.period) c.clock_of-clock.ensures.clock
