use Rattle.std.proofs.Common.{◌≡◌, add-one, arith}
use Rattle.prl_body.proofs.values.prefixed_times.Goals as goal

pub loop-preserved : goal.loop-preserved
loop-preserved c = rw (add-one, c.before-value.ensures, c.loop.invariant)

pub returns : goal.returns
returns c =
    let all : c.loop.counter ≡ c.args.times = omega arith in
    rw all at c.loop.invariant
