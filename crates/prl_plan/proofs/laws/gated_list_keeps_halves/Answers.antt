use Rattle.prl_base.proofs.Standard.{◌<◌, get_or, inl, inr, arith, cases_lt}
use Rattle.prl_plan.specs.Runs.{opening, after_events}
use Rattle.prl_plan.proofs.Sound.{sound_opening}
use Rattle.prl_plan.proofs.Legal.{IsGated_sound}
use Rattle.prl_plan.proofs.laws.gated_list_keeps_halves.Goals as goal

pub returns : goal.returns
returns c = record {
  counted = λ k facts list gated i task.
      (IsGated_sound k facts (opening k) (sound_opening k facts) list gated).tagged.counted i task;
  kept = λ k facts list gated i n unfinished.
      elim (cases_lt (after_events k (opening k) list).now (k.deadline i n)) [
        | inl early ↦ early
        | inr due ↦ absurd
            (let ended : n < get_or (after_events k (opening k) list).ended i 0 =
            (IsGated_sound k facts (opening k) (sound_opening k facts) list gated).kept i n
            (record { task = unfinished.task; job = unfinished.job }) due in
            omega (arith, ended, unfinished.unfinished))
      ];
  halves = λ k facts list gated i n place m cell reads unfinished.
      (IsGated_sound k facts (opening k) (sound_opening k facts) list gated).held i n place m cell reads unfinished;
}
