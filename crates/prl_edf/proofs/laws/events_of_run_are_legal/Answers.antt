use Rattle.prl_edf.proofs.EventsLegal.{events_legal}
use Rattle.prl_edf.proofs.laws.events_of_run_are_legal.Goals as goal

pub returns : goal.returns
returns c = events_legal
