-- Legal lists are gated: each read finds its tag.
use Rattle.prl_base.proofs.Standard.{◌≡◌, ◌+◌, ◌<◌, ◌≤◌, ℕ, List, [], ◌∷◌, get_or, inl, inr, refl, arith, cases_lt}
use Rattle.prl_base.specs.declared.numbers.EdgeNo.{EdgeNo}
use Rattle.prl_plan.specs.Vocabulary.{Action, Event, RunConstants, ExecState, next_action, after_event, after_events, IsUnfinished, HasJob, ActsReleased, ActsFirst, FindsTag, KeepsGated, KeepsLegal}
use Rattle.prl_plan.specs.Vocabulary.{IsGated, IsLegal, IsJob, ReadsAt, WritesAt, Provides, HasPlanFacts, IsSound}
use Rattle.prl_plan.specs.declared.events.Action.TheVariants as actions
use Rattle.prl_plan.specs.declared.events.Event.TheVariants as events
use Rattle.prl_plan.proofs.Sound.{sound_event}

module _ (c : RunConstants) (facts : HasPlanFacts c) where
  -- a legal read finds its instance: its writer comes earlier, and has ended
  pub legal_finds : (s : ExecState) → IsSound c s → (i : ℕ) → HasJob c s i → ActsReleased c s i → ActsFirst c s i →
      (action : Action) → next_action c s i ≡ action → FindsTag s action
  legal_finds s sound i has released first (actions.ReadConst port value) is = tt
  legal_finds s sound i has released first (actions.Write e m cell) is = tt
  legal_finds s sound i has released first actions.End is = tt
  legal_finds s sound i has released first (actions.Read port e m in_cell) is =
      let cell : ℕ = in_cell.0 in
      let n : ℕ = get_or s.ended i 0 in
      let place : ℕ = get_or s.places i 0 in
      let reads : ReadsAt c i n place m cell = record { job = record { task = has.task; job = has.job }; action = (port, e, is) } in
      let before = facts.provided i n place m cell reads in
      let j : ℕ = before.0 in
      let k : ℕ = before.1 in
      let provides : Provides c m cell i n j k (before.2) = before.3 in
      let early : c.release j k ≤ s.now = omega (arith, provides.release, released) in
      elim (cases_lt k (get_or s.ended j 0)) [
        | inl ended ↦
            omega (arith, sound.held i n place m cell reads has, sound.tagged.written j k (before.2) m cell provides.writes (inl ended))
        | inr left ↦ absurd
            (elim (facts.across i n place m j k (before.2) cell reads provides.writes) [
              | inl together ↦
                  (let unfinished : IsUnfinished c s j k = record { task = provides.writes.job.task; job = provides.writes.job.job; unfinished = left } in
                  omega (arith, first j k together unfinished early, provides.deadline))
              | inr due ↦
                  omega (arith, sound.kept j k provides.writes.job (omega (arith, due, released)), left)
            ])
      ]

  -- what a legal list allows, a gated one allows
  pub legal_gated : (s : ExecState) → IsSound c s → (event : Event) → KeepsLegal c s event → KeepsGated c s event
  legal_gated s sound events.Tick keeps = keeps
  legal_gated s sound (events.Act task) keeps =
      (keeps.0, keeps.1, legal_finds s sound task.0 keeps.0 keeps.1 keeps.2 (next_action c s task.0) refl)

  pub IsLegal_gated : (s : ExecState) → IsSound c s → (list : List Event) → IsLegal c s list → IsGated c s list
  IsLegal_gated s sound [] legal = tt
  IsLegal_gated s sound (event ∷ list) legal =
      let keeps : KeepsGated c s event = legal_gated s sound event legal.0 in
      (keeps, IsLegal_gated (after_event c s event) (sound_event c facts s sound event keeps) list legal.1)

  pub IsGated_sound : (s : ExecState) → IsSound c s → (list : List Event) → IsGated c s list → IsSound c (after_events c s list)
  IsGated_sound s sound [] gated = sound
  IsGated_sound s sound (event ∷ list) gated =
      IsGated_sound (after_event c s event) (sound_event c facts s sound event gated.0) list gated.1

  -- a write finds its cell empty, or holding an instance whose readers have ended
  pub write_finds_free : (s : ExecState) → IsSound c s → (i : ℕ) (e : EdgeNo) (m cell : ℕ) → HasJob c s i → ActsReleased c s i →
      next_action c s i ≡ actions.Write e m (record { 0 = cell }) → (j k place l : ℕ) → ReadsAt c j k place l cell → get_or s.tags cell 0 ≡ l + 1 → k < get_or s.ended j 0
  write_finds_free s sound i e m cell has released is j k place l reads holds =
      let n : ℕ = get_or s.ended i 0 in
      let here : ℕ = get_or s.places i 0 in
      let job : IsJob c i n = record { task = has.task; job = has.job } in
      let writes : WritesAt c i n here m cell = record { job = job; action = (e, is) } in
      let below : get_or s.tags cell 0 ≤ m = sound.tagged.ahead i n here m cell writes (inr (refl, (let z : get_or s.places i 0 ≤ get_or s.places i 0 = omega arith in z))) in
      let over : c.deadline j k ≤ c.release i n = facts.over j k place l i n here m cell reads writes (omega (arith, below, holds)) in
      sound.kept j k reads.job (let r : c.release i n ≤ s.now = released in omega (arith, over, r))
