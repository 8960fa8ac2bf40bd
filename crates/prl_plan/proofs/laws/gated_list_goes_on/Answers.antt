use Rattle.std.proofs.Common.{inl, inr, arith}
use Rattle.prl_plan.specs.Runs.{opening, after_events}
use Rattle.prl_plan.proofs.Decided.{complete_or_unfinished}
use Rattle.prl_plan.proofs.Legal.{IsGated_sound}
use Rattle.prl_plan.proofs.Progress.{sound_state_goes_on}
use Rattle.prl_plan.proofs.Sound.{sound_opening}
use Rattle.prl_plan.proofs.Tagged.{IsGated_free}
use Rattle.prl_plan.proofs.laws.gated_list_goes_on.Goals as goal

pub returns : goal.returns
returns c = record {
  free = λ k s list gated. IsGated_free k list s gated;
  round = λ k facts list gated left.
      let s = after_events k (opening k) list in
      elim (complete_or_unfinished k s) [
        | inl all ↦ absurd (left all)
        | inr (i, n, first) ↦
            sound_state_goes_on k facts s (IsGated_sound k facts (opening k) (sound_opening k facts) list gated) i n
            (record { task = first.task; job = first.job; unfinished = (omega (arith, first.first)) })
      ];
}
