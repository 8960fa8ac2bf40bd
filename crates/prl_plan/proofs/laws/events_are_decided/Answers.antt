use Rattle.prl_plan.proofs.Decided.{event_decided, complete_or_unfinished}
use Rattle.prl_plan.proofs.laws.events_are_decided.Goals as goal

pub returns : goal.returns
returns c = record { rules = event_decided; complete = complete_or_unfinished }
