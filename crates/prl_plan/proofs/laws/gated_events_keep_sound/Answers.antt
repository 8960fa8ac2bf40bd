use Rattle.prl_plan.proofs.Sound.{sound_opening, sound_event}
use Rattle.prl_plan.proofs.Legal.{legal_gated}
use Rattle.prl_plan.proofs.laws.gated_events_keep_sound.Goals as goal

pub returns : goal.returns
returns c = record { opening = sound_opening; each = sound_event; legal = legal_gated }
