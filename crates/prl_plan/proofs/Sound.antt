-- Each event that a gated list allows keeps a sound state.
use Rattle.prl_base.proofs.Standard.{◌≡◌, ◌+◌, ◌<◌, ◌≤◌, ℕ, length, get_or, set, replicate, inl, inr, refl, sym, ap, subst, arith, cases_lt, get_or-replicate}
use Rattle.prl_base.specs.declared.numbers.EdgeNo.{EdgeNo}
use Rattle.prl_plan.specs.Vocabulary.{Action, Event, RunConstants, ExecState, opening, next_action, moved, after_action, after_event, IsUnfinished, HasJob, ActsReleased, KeepsGated, IsJob, ReadsAt}
use Rattle.prl_plan.specs.Vocabulary.{WritesAt, HasPlanFacts, IsSound}
use Rattle.prl_plan.specs.declared.events.Action.TheVariants as actions
use Rattle.prl_plan.specs.declared.events.Event.TheVariants as events
use Rattle.prl_plan.proofs.Places.{get_set}
use Rattle.prl_plan.proofs.Tagged.{tagged_event, tagged_opening}

module _ (c : RunConstants) (facts : HasPlanFacts c) where
  -- no job that was ended is unfinished
  ended_grows : (s : ExecState) (i j : ℕ) → i < length s.ended → get_or s.ended j 0 ≤ get_or (set s.ended i (get_or s.ended i 0 + 1)) j 0
  ended_grows s i j inside =
      elim (get_set s.ended i (get_or s.ended i 0 + 1) j inside) [
        | inl same ↦ omega (arith, same.1, ap (λ x. get_or s.ended x 0) same.0)
        | inr other ↦ omega (arith, other.1)
      ]

  -- no job ends, and no tag changes
  held_same : (s t : ExecState) → IsSound c s → t.ended ≡ s.ended → t.tags ≡ s.tags → (j k place m slot : ℕ) → ReadsAt c j k place m slot → IsUnfinished c t j k →
      get_or t.tags slot 0 ≤ m + 1
  held_same s t sound ended tags j k place m slot reads unfinished =
      let before : IsUnfinished c s j k = record {
        task = unfinished.task;
        job = unfinished.job;
        unfinished = subst (λ xs. get_or xs j 0 ≤ k) ended unfinished.unfinished;
      } in
      subst (λ xs. get_or xs slot 0 ≤ m + 1) (sym tags) (sound.held j k place m slot reads before)

  held_written : (s : ExecState) → IsSound c s → (i : ℕ) (e : EdgeNo) (m slot : ℕ) → HasJob c s i → ActsReleased c s i →
      next_action c s i ≡ actions.Write e m (record { 0 = slot }) →
      (j k place l other : ℕ) → ReadsAt c j k place l other → IsUnfinished c s j k → get_or (set s.tags slot (m + 1)) other 0 ≤ l + 1
  held_written s sound i e m slot has released is j k place l other reads unfinished =
      let n : ℕ = get_or s.ended i 0 in
      let now_written : WritesAt c i (get_or s.ended i 0) (get_or s.places i 0) m slot = record { job = record { task = has.task; job = has.job }; action = (e, is) } in
      let in_tags : slot < length s.tags = omega (arith, sound.tagged.tags, facts.write_cell i n (get_or s.places i 0) m slot now_written) in
      elim (get_set s.tags slot (m + 1) other in_tags) [
        | inl same ↦
            (elim (cases_lt l m) [
              | inl earlier ↦
                  (let here : ReadsAt c j k place l slot = subst (λ x. ReadsAt c j k place l x) same.0 reads in
                  let over : c.deadline j k ≤ c.release i n = facts.over j k place l i n (get_or s.places i 0) m slot here now_written earlier in
                  let ended : k < get_or s.ended j 0 = sound.kept j k reads.job (omega (arith, over, released)) in
                  absurd (omega (arith, unfinished.unfinished, ended)))
              | inr not_earlier ↦ omega (arith, same.1, not_earlier)
            ])
        | inr differs ↦ omega (arith, differs.1, sound.held j k place l other reads unfinished)
      ]

  held_action : (s : ExecState) → IsSound c s → (i : ℕ) → HasJob c s i → ActsReleased c s i → (action : Action) → next_action c s i ≡ action →
      (j k place m slot : ℕ) → ReadsAt c j k place m slot → IsUnfinished c (after_action s i action) j k → get_or (after_action s i action).tags slot 0 ≤ m + 1
  held_action s sound i has released (actions.ReadConst port value) is j k place m slot reads left = held_same s (moved s i) sound refl refl j k place m slot reads left
  held_action s sound i has released (actions.Read port e l at) is j k place m slot reads left = held_same s (moved s i) sound refl refl j k place m slot reads left
  held_action s sound i has released (actions.Write e l at) is j k place m slot reads left =
      held_written s sound i e l at.0 has released is j k place m slot reads (record { task = left.task; job = left.job; unfinished = left.unfinished })
  held_action s sound i has released actions.End is j k place m slot reads left =
      let inside : i < length s.ended = omega (arith, sound.tagged.ended, has.task) in
      sound.held j k place m slot reads (record {
        task = left.task;
        job = left.job;
        unfinished = omega (arith, left.unfinished, ended_grows s i j inside);
      })

  kept_action : (s : ExecState) → IsSound c s → (i : ℕ) → HasJob c s i → (action : Action) →
      (j k : ℕ) → IsJob c j k → c.deadline j k ≤ s.now → k < get_or (after_action s i action).ended j 0
  kept_action s sound i has (actions.ReadConst port value) j k job due = sound.kept j k job due
  kept_action s sound i has (actions.Read port e l at) j k job due = sound.kept j k job due
  kept_action s sound i has (actions.Write e l at) j k job due = sound.kept j k job due
  kept_action s sound i has actions.End j k job due =
      let inside : i < length s.ended = omega (arith, sound.tagged.ended, has.task) in
      omega (arith, sound.kept j k job due, ended_grows s i j inside)

  now_same : (s : ExecState) (i : ℕ) (action : Action) → (after_action s i action).now ≡ s.now
  now_same s i (actions.ReadConst port value) = refl
  now_same s i (actions.Read port e l at) = refl
  now_same s i (actions.Write e l at) = refl
  now_same s i actions.End = refl

  -- an event that a gated list allows keeps a sound state
  pub sound_event : (s : ExecState) → IsSound c s → (event : Event) → KeepsGated c s event → IsSound c (after_event c s event)
  sound_event s sound events.Tick keeps = record {
    tagged = tagged_event c facts s sound.tagged events.Tick keeps.within;
    kept = λ i n job due.
        elim (cases_lt n (get_or s.ended i 0)) [
          | inl below ↦ below
          | inr left ↦ absurd (omega (arith, keeps.ended i n (record { task = job.task; job = job.job; unfinished = left }), due))
        ];
    held = λ j k place m slot reads left. sound.held j k place m slot reads (record { task = left.task; job = left.job; unfinished = left.unfinished });
  }
  sound_event s sound (events.Act task) keeps = record {
    tagged = tagged_event c facts s sound.tagged (events.Act task) keeps;
    kept = λ i n job due.
        kept_action s sound task.0 keeps.0 (next_action c s task.0) i n job
        omega (arith, now_same s task.0 (next_action c s task.0), due);
    held = held_action s sound task.0 keeps.0 keeps.1 (next_action c s task.0) refl;
  }

  -- the opening state is sound
  pub sound_opening : IsSound c (opening c)
  sound_opening = record {
    tagged = tagged_opening c facts;
    kept = λ i n job due. absurd (let p : 1 ≤ c.deadline i n = facts.positive i n job in omega (arith, p, due));
    held = λ j k place m cell reads unfinished. (let z : ◌≡◌ {A = ℕ} (get_or (replicate c.slots 0) cell 0) 0 = get_or-replicate c.slots cell 0 0 (facts.read_cell j k place m cell reads) in omega (arith, z));
  }
