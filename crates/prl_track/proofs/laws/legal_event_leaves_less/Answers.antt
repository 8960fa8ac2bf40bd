use Rattle.prl_track.proofs.Falls.{legal_event_leaves_less}
use Rattle.prl_track.proofs.laws.legal_event_leaves_less.Goals as goal

pub returns : goal.returns
returns _ = legal_event_leaves_less
