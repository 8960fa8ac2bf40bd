use Rattle.prl_track.proofs.NextLaws.{next_keeps_legal}
use Rattle.prl_track.proofs.laws.next_event_is_legal.Goals as goal

pub returns : goal.returns
returns _ = next_keeps_legal
