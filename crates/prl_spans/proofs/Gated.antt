-- Acts in spans are gated.
use Rattle.prl_base.proofs.Standard.{◌≡◌, ◌+◌, ◌<◌, ◌≤◌, ℕ, List, [], ◌∷◌, length, get_or, inl, inr, refl, ap, arith, cases_lt}
use Rattle.prl_plan.specs.Vocabulary.{RunConstants, ExecState, opening, next_action, after_action, after_event, after_events, HasJob, FindsTag, KeepsGated, IsGated, IsComplete}
use Rattle.prl_plan.specs.Vocabulary.{IsJob, ReadsAt, Provides, HasPlanFacts, IsSound}
use Rattle.prl_plan.specs.declared.events.Action.{Action}
use Rattle.prl_plan.specs.declared.events.Event.{Event}
use Rattle.prl_plan.specs.declared.events.Action.TheVariants as actions
use Rattle.prl_plan.specs.declared.events.Event.TheVariants as events
use Rattle.prl_plan.proofs.Places.{get_set}
use Rattle.prl_plan.proofs.StateLaws.{opening_is_sound, gated_event_keeps_sound}
use Rattle.prl_tables.specs.Unrolled.{Placing}
use Rattle.prl_spans.specs.Spans.{AreSpans, KeepsSpans, AreInSpans}

-- a job's end lets no task have fewer ended jobs
ended_after : (s : ExecState) (i : ℕ) → i < length s.ended → (action : Action) → (j : ℕ) → get_or s.ended j 0 ≤ get_or (after_action s i action).ended j 0
ended_after s i inside (actions.ReadConst port value) j = omega arith
ended_after s i inside (actions.Read port e m cell) j = omega arith
ended_after s i inside (actions.Write e m cell) j = omega arith
ended_after s i inside actions.End j = elim (get_set s.ended i (get_or s.ended i 0 + 1) j inside) [
  | inl same ↦ (let e = ap (λ (x : ℕ). get_or s.ended x 0) same.0 in omega (arith, e, same.1))
  | inr other ↦ omega (arith, other.1)
]

-- nor does an act let time go on
now_after : (s : ExecState) (i : ℕ) (action : Action) → (after_action s i action).now ≡ s.now
now_after s i (actions.ReadConst port value) = refl
now_after s i (actions.Read port e m cell) = refl
now_after s i (actions.Write e m cell) = refl
now_after s i actions.End = refl

module _ (c : RunConstants) (facts : HasPlanFacts c) (begin end : Placing) (spans : AreSpans c begin end) where
  -- a sound state in which each job has ended whose span is over
  record Stands (s : ExecState) : Type 0 where
    pub sound : IsSound c s
    pub over : (i n : ℕ) → IsJob c i n → end i n ≤ s.now → n < get_or s.ended i 0

  at_opening : Stands (opening c)
  at_opening = record {
    sound = opening_is_sound c facts;
    over = λ i n job ended. absurd (let some = spans.some i n job in omega (arith, ended, some));
  }

  -- what is read has been written: the span of the job that writes it is over
  finds : (s : ExecState) → Stands s → (i : ℕ) → HasJob c s i → begin i (get_or s.ended i 0) ≤ s.now → (action : Action) → next_action c s i ≡ action → FindsTag s action
  finds s stands i has begun (actions.ReadConst port value) is = tt
  finds s stands i has begun (actions.Write e m cell) is = tt
  finds s stands i has begun actions.End is = tt
  finds s stands i has begun (actions.Read port e m in_cell) is =
      let cell : ℕ = in_cell.0 in
      let n : ℕ = get_or s.ended i 0 in
      let place : ℕ = get_or s.places i 0 in
      let reads : ReadsAt c i n place m cell = record { job = record { task = has.task; job = has.job }; action = (port, e, is) } in
      let before = facts.provided i n place m cell reads in
      let provides : Provides c m cell i n before.0 before.1 before.2 = before.3 in
      let past : end before.0 before.1 ≤ begin i n = spans.after i n place m cell before.0 before.1 before.2 reads provides.writes in
      let ended : before.1 < get_or s.ended before.0 0 = stands.over before.0 before.1 provides.writes.job (omega (arith, past, begun)) in
      omega (arith, stands.sound.held i n place m cell reads has, stands.sound.tagged.written before.0 before.1 before.2 m cell provides.writes (inl ended))

  keeps : (s : ExecState) → Stands s → (event : Event) → KeepsSpans c begin end s event → KeepsGated c s event
  keeps s stands events.Tick allowed = record {
    within = (let w = allowed.0 in omega (arith, w));
    ended = λ i n unfinished.
        (let due = spans.due i n (record { task = unfinished.task; job = unfinished.job }) in omega (arith, due, allowed.1 i n unfinished));
  }
  keeps s stands (events.Act task) allowed =
      let i : ℕ = task.0 in
      let has = allowed.0 in
      let release = spans.released i (get_or s.ended i 0) (record { task = has.task; job = has.job }) in
      (has, omega (arith, release, allowed.1), finds s stands i has allowed.1 (next_action c s i) refl)

  goes_on : (s : ExecState) → Stands s → (event : Event) → KeepsSpans c begin end s event → Stands (after_event c s event)
  goes_on s stands events.Tick allowed = record {
    sound = gated_event_keeps_sound c facts s stands.sound events.Tick (keeps s stands events.Tick allowed);
    over = λ i n job ended. elim (cases_lt n (get_or s.ended i 0)) [
      | inl done ↦ done
      | inr open_yet ↦ absurd
          (let left = allowed.1 i n (record { task = job.task; job = job.job; unfinished = open_yet }) in omega (arith, left, ended))
    ];
  }
  goes_on s stands (events.Act task) allowed =
      let i : ℕ = task.0 in
      let has = allowed.0 in
      let inside : i < length s.ended = (let l = stands.sound.tagged.ended in let t = has.task in omega (arith, l, t)) in
      record {
        sound = gated_event_keeps_sound c facts s stands.sound (events.Act task) (keeps s stands (events.Act task) allowed);
        over = λ j n job ended.
            (let more = ended_after s i inside (next_action c s i) j in
            let same = now_after s i (next_action c s i) in
            omega (arith, more, stands.over j n job (omega (arith, ended, same))));
      }

  gated : (s : ExecState) → Stands s → (list : List Event) → AreInSpans c begin end s list → IsGated c s list
  gated s stands [] all = tt
  gated s stands (event ∷ list) all = (keeps s stands event all.0, gated (after_event c s event) (goes_on s stands event all.0) list all.1)

  stands_after : (s : ExecState) → Stands s → (list : List Event) → AreInSpans c begin end s list → Stands (after_events c s list)
  stands_after s stands [] all = stands
  stands_after s stands (event ∷ list) all = stands_after (after_event c s event) (goes_on s stands event all.0) list all.1

  pub acts_are_gated : (list : List Event) → AreInSpans c begin end (opening c) list → IsGated c (opening c) list
  acts_are_gated list all = gated (opening c) at_opening list all

  pub acts_are_complete : (list : List Event) → AreInSpans c begin end (opening c) list → (after_events c (opening c) list).now ≡ c.end →
      IsComplete c (after_events c (opening c) list)
  acts_are_complete list all at_end = λ i n task job.
      (let its : IsJob c i n = record { task = task; job = job } in
      let due = spans.due i n its in
      let within = facts.within i n its in
      (stands_after (opening c) at_opening list all).over i n its (omega (arith, due, within, at_end)))
