use Rattle.prl_base.proofs.Standard.{sym, subst}
use Rattle.prl_exec.specs.Runs.{HasEnded}
use Rattle.prl_executions.proofs.tabled.driven_text.Goals as goal

pub text_of-requires-clause-ended : goal.text_of-requires-clause-ended
text_of-requires-clause-ended c = subst HasEnded (sym c.closed.ensures) c.in_ok-run.ensures.ended
