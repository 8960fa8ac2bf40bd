use Rattle.prl_plan.specs.Runs.{opening, after_events}
use Rattle.prl_plan.proofs.Sound.{sound_opening}
use Rattle.prl_plan.proofs.Legal.{IsGated_sound, write_finds_free}
use Rattle.prl_plan.proofs.laws.gated_list_finds_halves_free.Goals as goal

pub returns : goal.returns
returns c = λ k facts list gated i e m cell has released is j n place l reads holds.
    write_finds_free k facts (after_events k (opening k) list) (IsGated_sound k facts (opening k) (sound_opening k facts) list gated)
    i e m cell has released is j n place l reads holds
