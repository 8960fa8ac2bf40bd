use Rattle.prl_plan.proofs.Runs.{after_events_append, IsLegal_append, IsGated_append, IsFree_append}
use Rattle.prl_plan.proofs.laws.run_of_two_lists.Goals as goal

pub returns : goal.returns
returns c = record { state = after_events_append; legal = IsLegal_append; gated = IsGated_append; free = IsFree_append }
