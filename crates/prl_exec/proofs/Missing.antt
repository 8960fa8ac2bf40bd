-- What a read leaves that was overrun.
use Rattle.prl_base.proofs.Standard.{◌≡◌, ◌<◌, ℕ, Bool, refl, sym, ◌∙◌, ap, subst, arith, inl, inr, Some, length, slice_get, cases_eq}
use Rattle.prl_base.specs.declared.numbers.CellNo.{CellNo}
use Rattle.prl_base.specs.declared.numbers.TaskNo.{TaskNo}
use Rattle.prl_plan.specs.declared.events.Action.TheVariants as actions
use Rattle.prl_plan.specs.Vocabulary.{last_tag, RunConstants, action_at}
use Rattle.prl_rule.specs.Known.{run_of}
use Rattle.prl_rule.specs.declared.views.Constants.{Constants}
use Rattle.prl_seats.specs.JobSeats.{IsStage, JobSeatView}
use Rattle.prl_seats.specs.declared.jobs.Stage.{Stage}
use Rattle.prl_seats.specs.declared.jobs.Stage.TheVariants as stages
use Rattle.prl_board.specs.declared.seats.Got.TheVariants as gots
use Rattle.prl_board.specs.Vocabulary.{FindsTag, HoldsTag, IsPlacedAt, IsTaskCall, IsWhole, LoneView, lent_to, AnswersRead, MayRead, place_of}
use Rattle.prl_board.specs.declared.seats.Half.{Half}
use Rattle.prl_board.specs.declared.seats.Place.TheVariants as places
use Rattle.prl_exec.specs.Vocabulary.{Missed, IsOverrunIn, IsReadingAt}
use Rattle.prl_board.proofs.Lists.{seat_there}

-- it may read
pub reading_may : (l : LoneView) (i port : ℕ) → IsReadingAt l i port → IsPlacedAt MayRead l i
reading_may l i port at = (at.0, at.2, subst MayRead (sym at.3) tt)

-- it is to read there
pub reading_placed : (l : LoneView) (i port : ℕ) (half : Half) → i < length l.seats → ((s : JobSeatView) → slice_get l.seats i ≡ Some s → places.Reading port half ≡ place_of s.stage) →
    IsReadingAt l i port
reading_placed l i port half inside at =
    let there = seat_there l.seats i inside in (there.0, half, there.1, sym (at there.0 there.1))

module _ (k : Constants) (l m : LoneView) (task : TaskNo) (port job : ℕ) (cell : CellNo) (wanted found : ℕ) where
  abbrev c : RunConstants
  c = run_of k

  abbrev missed : Missed
  missed = record { task = task; job = job; port = port; cell = cell; wanted = wanted; found = found }

  module _ (call : IsTaskCall task.0 l m (λ s t. AnswersRead k s t (gots.Overrun cell wanted found) s.stage)) (is_job : (s : JobSeatView) → slice_get m.seats task.0 ≡ Some s → job ≡ s.job)
      (s : JobSeatView) (has : slice_get l.seats task.0 ≡ Some s) (inside : task.0 < c.tasks) where
    abbrev t : JobSeatView
    t = (call.answer s has).0

    there : slice_get m.seats task.0 ≡ Some t
    there = (call.answer s has).1

    -- what a half holds that the other tasks write, and this one
    holds_on : (slot : ℕ) → t.job ≡ s.job → t.place ≡ s.place → HoldsTag c l.seats slot found → HoldsTag c m.seats slot found
    holds_on slot same_job same_place before j u writer is = elim (cases_eq j task.0) [
      | inl here ↦
          (let one : t ≡ u = (let e : Some t ≡ Some u = sym there ∙ (ap (slice_get m.seats) (sym here) ∙ is) in cc e) in
          let tag : found ≡ last_tag c j slot s.job s.place = before j s writer (ap (slice_get l.seats) here ∙ has) in
          tag ∙ (ap (λ (n : ℕ). last_tag c j slot n s.place) (sym same_job ∙ ap (λ (x : JobSeatView). x.job) one)
          ∙ ap (last_tag c j slot u.job) (sym same_place ∙ ap (λ (x : JobSeatView). x.place) one)))
      | inr apart ↦ before j u writer (sym (call.others j apart) ∙ is)
    ]

    by_stage : (half : Half) (is_open : Bool) (stage : Stage) → s.stage ≡ stage → place_of stage ≡ places.Reading port half → IsStage c task.0 s.job s.place is_open stage →
        AnswersRead k (lent_to l s) (lent_to m t) (gots.Overrun cell wanted found) stage → FindsTag c l.seats s.stage (gots.Overrun cell wanted found) → IsOverrunIn k m missed
    by_stage half is_open stages.Over is at shown answer finds = absurd (cc at)
    by_stage half is_open stages.Idle is at shown answer finds = absurd (cc at)
    by_stage half is_open (stages.At (actions.ReadConst q value)) is at shown answer finds = absurd (let e : gots.Overrun cell wanted found ≡ gots.Value value = answer.0 in cc e)
    by_stage half is_open (stages.At (actions.Write e n slot)) is at shown answer finds = absurd answer
    by_stage half is_open (stages.At actions.End) is at shown answer finds = absurd answer
    by_stage half is_open (stages.At (actions.Read q e n slot)) is at shown answer finds =
        let its = answer.answer in
        let stays = its.0.stays in
        let port_is : q ≡ port = cc at in
        let same_job : t.job ≡ s.job = stays.job in
        let same_place : t.place ≡ s.place = stays.place in
        let reads : action_at c task.0 s.job s.place ≡ actions.Read port e n slot = shown.2 ∙ ap (λ (p : ℕ). actions.Read p e n slot) port_is in
        record {
          free = its.2;
          seat = t;
          has = there;
          job = is_job t there;
          left = record { task = inside; job = (let below = shown.1 in let z : t.job < c.jobs task.0 = omega (arith, below, same_job) in z) };
          edge = e;
          instance = n;
          slot = slot;
          reads = ap (λ (x : ℕ). action_at c task.0 x t.place) same_job ∙ (ap (action_at c task.0 s.job) same_place ∙ reads);
          cell = its.0.at;
          wanted = its.0.wants;
          later = its.1;
          written = λ i tag. answer.told.written i (sym its.0.finds ∙ tag);
          holds = holds_on slot.0 same_job same_place (finds q e n slot is);
        }

  -- a read that was overrun
  pub overrun_there : IsWhole k l → IsReadingAt l task.0 port → IsTaskCall task.0 l m (λ s t. AnswersRead k s t (gots.Overrun cell wanted found) s.stage) →
      ((s : JobSeatView) → slice_get l.seats task.0 ≡ Some s → FindsTag c l.seats s.stage (gots.Overrun cell wanted found)) →
      ((s : JobSeatView) → slice_get m.seats task.0 ≡ Some s → job ≡ s.job) → IsOverrunIn k m missed
  overrun_there whole at call exact is_job =
      let s = at.0 in let has = at.2 in
      let follows = (whole.each task.0 s has).1 in
      by_stage call is_job s has follows.task at.1 _ s.stage refl at.3 follows.shown (call.answer s has).3 (exact s has)
