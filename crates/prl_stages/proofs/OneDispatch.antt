-- There is one dispatched list.
use Rattle.prl_base.proofs.Standard.{◌≡◌, ◌<◌, ◌≤◌, ℕ, List, [], ◌∷◌, Option, Some, None, refl, sym, ap, ◌∙◌, inl, inr, subst, arith, slice_index, cases_order}
use Rattle.prl_plan.specs.Vocabulary.{IsComplete, IsUnfinished, first_unfinished, ExecState, RunConstants, after_event}
use Rattle.prl_plan.specs.declared.events.Event.{Event}
use Rattle.prl_plan.specs.declared.events.Event.TheVariants as events
use Rattle.prl_schedules.specs.Dispatches.{IsDispatched}
use Rattle.prl_track.specs.Tracks.{IsEarliest, IsIdle, IsNext}

none_some : {A : Type 0} (a : A) → None ≡ Some a → ⊥
none_some a e = cc

some_one : {A : Type 0} (a b : A) → Some a ≡ Some b → a ≡ b
some_one a b e = cc

abbrev act_of : ℕ → Option Event
act_of i = Some (events.Act (record { 0 = i }))

module _ (c : RunConstants) (s : ExecState) where
  -- where all jobs have ended none is left
  none_left : IsComplete c s → (i n : ℕ) → IsUnfinished c s i n → ⊥
  none_left complete i n left =
      let ended : n < slice_index s.ended i = complete i n left.task left.job in
      let not : slice_index s.ended i ≤ n = left.unfinished in
      omega (arith, ended, not)

  -- where none is released none is due first
  none_first : IsIdle c s → (i : ℕ) → IsEarliest c s i → ⊥
  none_first idle i first =
      let later : s.now < c.release i (first_unfinished s i) = idle.none i (first_unfinished s i) first.job in
      let released : c.release i (first_unfinished s i) ≤ s.now = first.released in
      omega (arith, later, released)

  -- of two that are due earliest neither is a lower task
  not_lower : (i j : ℕ) → IsEarliest c s i → IsEarliest c s j → i < j → ⊥
  not_lower i j one other lower =
      let before : c.deadline j (first_unfinished s j) < c.deadline i (first_unfinished s i) = other.lowest i lower one.job one.released in
      let not : c.deadline i (first_unfinished s i) ≤ c.deadline j (first_unfinished s j) = one.first j (first_unfinished s j) other.job other.released in
      omega (arith, before, not)

  one_earliest : (i j : ℕ) → IsEarliest c s i → IsEarliest c s j → i ≡ j
  one_earliest i j one other = elim (cases_order i j) [
    | inl same ↦ same
    | inr apart ↦ elim apart [ inl less ↦ absurd (not_lower i j one other less) | inr greater ↦ absurd (not_lower j i other one greater) ]
  ]

  -- one event comes next, or none
  one_next : (a b : Option Event) → IsNext c s a → IsNext c s b → a ≡ b
  one_next None None h k = refl
  one_next None (Some events.Tick) h k = absurd (none_left h k.left.0 k.left.1 k.left.2)
  one_next None (Some (events.Act task)) h k = absurd (none_left h task.0 (first_unfinished s task.0) k.job)
  one_next (Some events.Tick) None h k = absurd (none_left k h.left.0 h.left.1 h.left.2)
  one_next (Some events.Tick) (Some events.Tick) h k = refl
  one_next (Some events.Tick) (Some (events.Act task)) h k = absurd (none_first h task.0 k)
  one_next (Some (events.Act task)) None h k = absurd (none_left k task.0 (first_unfinished s task.0) h.job)
  one_next (Some (events.Act task)) (Some events.Tick) h k = absurd (none_first k task.0 h)
  one_next (Some (events.Act task)) (Some (events.Act other)) h k = ap act_of (one_earliest task.0 other.0 h k)

-- a run has one dispatched list
pub one_dispatched : (c : RunConstants) (s : ExecState) (a b : List Event) → IsDispatched c s a → IsDispatched c s b → a ≡ b
one_dispatched c s [] [] h k = refl
one_dispatched c s [] (event ∷ others) h k = absurd (none_some event (one_next c s None (Some event) h k.0))
one_dispatched c s (event ∷ list) [] h k = absurd (none_some event (one_next c s None (Some event) k h.0))
one_dispatched c s (event ∷ list) (other ∷ others) h k =
    let same : event ≡ other = some_one event other (one_next c s (Some event) (Some other) h.0 k.0) in
    let there : IsDispatched c (after_event c s event) others = subst (λ (x : Event). IsDispatched c (after_event c s x) others) (sym same) k.1 in
    ap (λ (x : Event). x ∷ list) same ∙ ap (λ (l : List Event). other ∷ l) (one_dispatched c (after_event c s event) list others h.1 there)
