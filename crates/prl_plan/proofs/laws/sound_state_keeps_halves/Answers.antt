use Rattle.prl_plan.proofs.laws.sound_state_keeps_halves.Goals as goal

pub returns : goal.returns
returns c = record {
  counted = λ k s sound. sound.tagged.counted;
  kept = λ k s sound. sound.kept;
  halves = λ k s sound. sound.held;
}
