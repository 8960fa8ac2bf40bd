use Rattle.prl_clock.proofs.Terms.{on_err}
use Rattle.prl_clock.proofs.standings.timed.Goals as goal

pub returns-in_err-composed-clause-past : goal.returns-in_err-composed-clause-past
returns-in_err-composed-clause-past c = on_err c.from_residual.result _ (c.if-standing-root.false, c.in_err-composed.ensures.past)
