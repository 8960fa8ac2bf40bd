use Rattle.prl_clock.specs.code.Standings.{of_low, of_high, of_low_past, of_high_past}
use Rattle.prl_clock.proofs.Terms.{on_err}
use Rattle.prl_clock.proofs.steps.low_clock.Goals as goal

pub returns-in_err-over-in-Some-clause-past : goal.returns-in_err-over-in-Some-clause-past
returns-in_err-over-in-Some-clause-past c = on_err c.from_residual.result _ (of_low_past c.in-Some.clock c.in-Some.is c.in_err-over-in-Some.ensures.past)

pub returns-in_err-over-in-Some-clock-clause-past : goal.returns-in_err-over-in-Some-clock-clause-past
returns-in_err-over-in-Some-clock-clause-past c =
    on_err c.from_residual-in_err-over-in-Some-clock.result _ (of_high_past c.in-Some-clock.clock c.in-Some-clock.is c.in_err-over-in-Some-clock.ensures.past)

pub returns-in_ok-over-in-Some-clause-clock : goal.returns-in_ok-over-in-Some-clause-clock
returns-in_ok-over-in-Some-clause-clock c = (c.in_ok-over-in-Some.ensures.small, of_low c.in-Some.clock c.in-Some.is c.in_ok-over-in-Some.ensures.composed)

pub returns-in_ok-over-in-Some-clock-clause-clock : goal.returns-in_ok-over-in-Some-clock-clause-clock
returns-in_ok-over-in-Some-clock-clause-clock c =
    (c.in_ok-over-in-Some-clock.ensures.small, of_high c.in-Some-clock.clock c.in-Some-clock.is c.in_ok-over-in-Some-clock.ensures.composed)
