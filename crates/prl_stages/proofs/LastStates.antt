-- What a whole gated list of events leads to: it is a free list, and no job is open.
use Rattle.prl_base.proofs.Standard.{◌≡◌, ◌+◌, ◌<◌, ◌⊎◌, ℕ, zero, suc, List, [], ◌∷◌, get_or, set, replicate, inl, inr, refl, ◌∙◌, sym, subst, arith}
use Rattle.prl_base.proofs.Standard.{cases_eq, get_or-set_other}
use Rattle.prl_plan.specs.Vocabulary.{ExecState, HasJob, IsComplete, IsFree, IsGated, RunConstants, after_action, after_event, after_events, moved, next_action, opening}
use Rattle.prl_plan.specs.declared.events.Action.{Action}
use Rattle.prl_plan.specs.declared.events.Action.TheVariants as actions
use Rattle.prl_plan.specs.declared.events.Event.{Event}
use Rattle.prl_plan.specs.declared.events.Event.TheVariants as events

pub gated_is_free : (c : RunConstants) (s : ExecState) (list : List Event) → IsGated c s list → IsFree c s list
gated_is_free c s [] gated = tt
gated_is_free c s (events.Tick ∷ list) gated = (let may = gated.0 in may.within, gated_is_free c (after_event c s events.Tick) list gated.1)
gated_is_free c s (events.Act task ∷ list) gated = (gated.0, gated_is_free c (after_event c s (events.Act task)) list gated.1)

-- a task that stands behind the beginning of its list of actions has a job
abbrev AreAtJobs : RunConstants → ExecState → Type 0
AreAtJobs c s = (j : ℕ) → (get_or s.places j 0 ≡ 0) ⊎ (get_or s.ended j 0 < c.jobs j)

none_placed : (n i : ℕ) → ◌≡◌ {A = ℕ} (get_or (replicate n 0) i 0) 0
none_placed zero i = refl
none_placed (suc n) zero = refl
none_placed (suc n) (suc i) = none_placed n i

begun : (xs : List ℕ) (i : ℕ) → get_or (set xs i 0) i 0 ≡ 0
begun [] i = refl
begun (x ∷ xs) zero = refl
begun (x ∷ xs) (suc i) = begun xs i

module _ (c : RunConstants) where
  after_move : (s : ExecState) (i : ℕ) → HasJob c s i → AreAtJobs c s → AreAtJobs c (moved s i)
  after_move s i has at j = elim (cases_eq j i) [
    | inl same ↦ inr (subst (λ (x : ℕ). get_or s.ended x 0 < c.jobs x) (sym same) has.job)
    | inr other ↦ elim (at j) [
      | inl shut ↦ inl (get_or-set_other s.places i j (get_or s.places i 0 + 1) 0 other ∙ shut)
      | inr open_ ↦ inr open_
    ]
  ]

  after_act : (s : ExecState) (i : ℕ) → HasJob c s i → AreAtJobs c s → (action : Action) → AreAtJobs c (after_action s i action)
  after_act s i has at (actions.ReadConst port value) = after_move s i has at
  after_act s i has at (actions.Read port edge instance cell) = after_move s i has at
  after_act s i has at (actions.Write edge instance cell) = after_move s i has at
  after_act s i has at actions.End = λ j. elim (cases_eq j i) [
    | inl same ↦ inl (subst (λ (x : ℕ). get_or (set s.places i 0) x 0 ≡ 0) (sym same) (begun s.places i))
    | inr other ↦ elim (at j) [
      | inl shut ↦ inl (get_or-set_other s.places i j 0 0 other ∙ shut)
      | inr open_ ↦ inr (subst (λ (x : ℕ). x < c.jobs j) (sym (get_or-set_other s.ended i j (get_or s.ended i 0 + 1) 0 other)) open_)
    ]
  ]

  after_list : (s : ExecState) (list : List Event) → IsGated c s list → AreAtJobs c s → AreAtJobs c (after_events c s list)
  after_list s [] gated at = at
  after_list s (events.Tick ∷ list) gated at = after_list (after_event c s events.Tick) list gated.1 at
  after_list s (events.Act task ∷ list) gated at =
      after_list (after_event c s (events.Act task)) list gated.1 (after_act s task.0 gated.0.0 at (next_action c s task.0))

  pub none_open : (list : List Event) → IsGated c (opening c) list → IsComplete c (after_events c (opening c) list) → (i : ℕ) → i < c.tasks
      → get_or (after_events c (opening c) list).places i 0 ≡ 0
  none_open list gated complete i inside =
      elim (after_list (opening c) list gated (λ j. inl (none_placed c.tasks j)) i) [
        | inl shut ↦ shut
        | inr open_ ↦ absurd (let past = complete i (get_or (after_events c (opening c) list).ended i 0) inside open_ in omega (arith, past))
      ]
