use Rattle.prl_clock.proofs.Terms.{on_ok}
use Rattle.prl_clock.proofs.Joining.{shift_passes}
use Rattle.prl_clock.proofs.Joined.{high_nonzero}
use Rattle.prl_clock.proofs.Evening.{even_passes, even_solved, if_stuck, stuck_by}
use Rattle.prl_clock.proofs.steps.join.Goals as goal

pub over-requires : goal.over-requires
over-requires c = high_nonzero c.requires.0 _ _ _ _ c.requires.1

pub returns-in_err-shift-clause-stuck : goal.returns-in_err-shift-clause-stuck
returns-in_err-shift-clause-stuck c = λ cs m. if_stuck c.from_residual.result _ c.from_residual.ensures.1 (shift_passes cs _ _ _ _ m c.in_err-shift.ensures.past)

pub returns-in_err-even-clause-stuck : goal.returns-in_err-even-clause-stuck
returns-in_err-even-clause-stuck c = λ cs m. if_stuck c.from_residual-in_err-even.result _ c.from_residual-in_err-even.ensures.1 (c.in_err-even.ensures.past cs m)

pub returns-clause-solved : goal.returns-clause-solved
returns-clause-solved c =
    λ cs m.
    on_ok c.bring.result _ _ c.bring.ensures.moved
    (λ moved.
    even_solved cs _ _ _ _ (c.in_ok-even.ensures.even cs m) c.in_ok-shift.shift c.in_ok-shift.ensures.small c.in_ok-shift.ensures.composed c.bring.new.self moved.0 moved.1)

pub returns-clause-stuck : goal.returns-clause-stuck
returns-clause-stuck c =
    λ cs m.
    stuck_by c.bring.result _ _
    (even_passes cs _ _ _ _ (c.in_ok-even.ensures.even cs m) c.in_ok-shift.shift c.in_ok-shift.ensures.small c.in_ok-shift.ensures.composed) c.bring.ensures.refused
