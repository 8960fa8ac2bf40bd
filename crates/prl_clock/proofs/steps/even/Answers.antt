use Rattle.prl_clock.proofs.Terms.{on_err, on_err_by, on_ok}
use Rattle.prl_clock.proofs.Joined.{clock_passes, low_nonzero, low_some, over_nonzero}
use Rattle.prl_clock.proofs.Evening.{low_even, low_passes}
use Rattle.prl_clock.proofs.steps.even.Goals as goal

pub low_clock-requires-clause-high : goal.low_clock-requires-clause-high
low_clock-requires-clause-high c = over_nonzero c.requires.merging.0 _ _ _ _ c.requires.merging.1

pub low_clock-requires-clause-low : goal.low_clock-requires-clause-low
low_clock-requires-clause-low c = low_nonzero c.requires.merging.0 _ _ _ _ c.requires.merging.1

pub returns-in_err-clock-clause-past : goal.returns-in_err-clock-clause-past
returns-in_err-clock-clause-past c = λ cs m. on_err c.from_residual.result _ (clock_passes cs _ _ _ _ m c.in_err-clock.ensures.past)

pub returns-in-None-clause-even : goal.returns-in-None-clause-even
returns-in-None-clause-even c =
    λ cs m.
    on_ok c.time.result _ _ c.time.ensures.timed
    (λ timed.
    low_even cs _ _ _ _ m c.in-Some.clock (low_some _ _ _ c.in-Some.clock c.in_ok-clock.field-0 c.in-Some.is c.in_ok-clock.ensures.clock) c.in-None.is c.time.new.self c.time.ensures.count timed)

pub returns-in-None-clause-past : goal.returns-in-None-clause-past
returns-in-None-clause-past c =
    λ cs m.
    on_err_by c.time.result _ _ c.time.ensures.past
    (low_passes cs _ _ _ _ m c.in-Some.clock (low_some _ _ _ c.in-Some.clock c.in_ok-clock.field-0 c.in-Some.is c.in_ok-clock.ensures.clock))
