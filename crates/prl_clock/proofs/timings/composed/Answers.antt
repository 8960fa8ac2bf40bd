use Rattle.prl_clock.specs.code.Composition.{composed_period, composed_start}
use Rattle.prl_clock.proofs.Terms.{on_err, past_terms}
use Rattle.prl_clock.proofs.timings.composed.Goals as goal

pub returns-in_err-period-clause-past : goal.returns-in_err-period-clause-past
returns-in_err-period-clause-past c =
    let e = c.in_err-period.ensures in on_err c.from_residual.result _ (composed_period e.0 (past_terms _ _ e.0 e.1.0 e.1.1) e.1.0.equal)

pub returns-in_err-start-clause-past : goal.returns-in_err-start-clause-past
returns-in_err-start-clause-past c =
    let e = c.in_err-start.ensures in on_err c.from_residual-in_err-start.result _ (composed_start e.0 (past_terms _ _ e.0 e.1.0 e.1.1) e.1.0.equal)
