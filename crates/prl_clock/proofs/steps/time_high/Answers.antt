use Rattle.prl_clock.proofs.Terms.{on_err, on_err_by, on_ok}
use Rattle.prl_clock.proofs.Evening.{high_even, high_passes, own_passes}
use Rattle.prl_clock.proofs.steps.time_high.Goals as goal

pub returns-in_err-own-in-None-clause-past : goal.returns-in_err-own-in-None-clause-past
returns-in_err-own-in-None-clause-past c =
    λ cs m. on_err c.from_residual.result _ (own_passes cs _ _ _ _ m c.args.clock.now c.requires.clock c.args.shift.now c.requires.small c.requires.shift c.in_err-own-in-None.ensures.past)

pub returns-in_ok-own-in-None-clause-even : goal.returns-in_ok-own-in-None-clause-even
returns-in_ok-own-in-None-clause-even c =
    λ cs m.
    on_ok c.time.result _ _ c.time.ensures.timed
    (λ timed.
    high_even cs _ _ _ _ m c.args.clock.now c.requires.clock c.args.shift.now c.requires.small c.requires.shift c.in_ok-own-in-None.own c.in_ok-own-in-None.ensures.small c.in_ok-own-in-None.ensures.composed
    c.requires.told.0 c.requires.told.1 c.time.new.self c.time.ensures.count timed)

pub returns-in_ok-own-in-None-clause-past : goal.returns-in_ok-own-in-None-clause-past
returns-in_ok-own-in-None-clause-past c =
    λ cs m.
    on_err_by c.time.result _ _ c.time.ensures.past
    (high_passes cs _ _ _ _ m c.args.clock.now c.requires.clock c.args.shift.now c.requires.small c.requires.shift c.in_ok-own-in-None.own c.in_ok-own-in-None.ensures.small c.in_ok-own-in-None.ensures.composed)
