use Rattle.std.proofs.Common.{arith}
use Rattle.prl_plan.proofs.ShortestRepeats.{least_repeat, whole_repeat}
use Rattle.prl_numbers.proofs.repeats.shortest_repeat.Goals as goal

pub returns-then-comes_within : goal.returns-then-comes_within
returns-then-comes_within g c =
    least_repeat c.args.list.now c.loop-step.step c.loop-step.auto.step (omega (arith, c.loop-step-test.true)) c.if-list-step-eq0.true
    (c.comes_within.ensures.0 c.if-comes_within.true) c.loop-step.invariant

pub returns : goal.returns
returns g c =
    whole_repeat c.args.list.now c.requires.some
    (λ d some below. c.loop-step.invariant d some (omega (arith, below, c.loop-step-test.false)))
