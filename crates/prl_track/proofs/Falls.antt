-- What is left of a run, as a number that falls with each legal event.
use Rattle.prl_base.proofs.Standard.{◌≡◌, ◌≢◌, ◌+◌, ◌*◌, ◌-◌, ◌<◌, ◌≤◌, ℕ, zero, suc, List, [], ◌∷◌, length, get_or, set, refl, sym, ◌∙◌, ap, arith, inl, inr, cases_lt, get_or-set_at}
use Rattle.prl_base.proofs.Standard.{get_or-set_other}
use Rattle.prl_plan.specs.Vocabulary.{HasPlanFacts, sum_below, HasJob, KeepsLegal, RunConstants, ExecState, next_action, after_action, after_event, IsTagged}
use Rattle.prl_plan.specs.declared.events.Action.{Action}
use Rattle.prl_plan.specs.declared.events.Event.{Event}
use Rattle.prl_plan.specs.declared.events.Action.TheVariants as actions
use Rattle.prl_plan.specs.declared.events.Event.TheVariants as events
use Rattle.prl_plan.proofs.PartsOfSums.{sum_grows}
use Rattle.prl_track.specs.Lefts.{many, left_of, left_in}

-- after the list stands the default
past_default : (xs : List Action) (place : ℕ) → length xs ≤ place → get_or xs place actions.End ≡ actions.End
past_default [] zero past = refl
past_default [] (suc place) past = refl
past_default (x ∷ xs) zero past = absurd (omega (arith, past))
past_default (x ∷ xs) (suc place) past = past_default xs place (omega (arith, past))

-- an action that is no end stands in the list
pub stands : (xs : List Action) (place : ℕ) → (get_or xs place actions.End ≡ actions.End → ⊥) → place < length xs
stands xs place none = elim (cases_lt place (length xs)) [
  | inl below ↦ below
  | inr past ↦ absurd (none (past_default xs place past))
]

module _ (c : RunConstants) (facts : HasPlanFacts c) (s : ExecState) (tagged : IsTagged c s) (i : ℕ) (has : HasJob c s i) where
  in_places : i < length s.places
  in_places = omega (arith, tagged.places, has.task)

  in_ended : i < length s.ended
  in_ended = omega (arith, tagged.ended, has.task)

  -- where task i has less left and each other task stands where it stood, less is left of all tasks
  less_of_all : (t : ExecState) → left_of c t i < left_of c s i → ((j : ℕ) → j ≢ i → get_or t.ended j 0 ≡ get_or s.ended j 0) →
      ((j : ℕ) → j ≢ i → get_or t.places j 0 ≡ get_or s.places j 0) → sum_below (left_of c t) c.tasks < sum_below (left_of c s) c.tasks
  less_of_all t falls ended places = sum_grows (left_of c t) (left_of c s) i c.tasks has.task falls (λ j other.
      (let same : left_of c t j ≡ left_of c s j =
      ap (λ (k : ℕ). (c.jobs j - k) * (many + 1) + (many - get_or t.places j 0)) (ended j other)
      ∙ ap (λ (k : ℕ). (c.jobs j - get_or s.ended j 0) * (many + 1) + (many - k)) (places j other) in
      omega (arith, same)))

  moves : (action : Action) → next_action c s i ≡ action → (action ≡ actions.End → ⊥) → (t : ExecState) → t.now ≡ s.now → t.ended ≡ s.ended →
      t.places ≡ set s.places i (get_or s.places i 0 + 1) → left_in c t < left_in c s
  moves action is none t now ended places =
      let few = facts.short i (get_or s.ended i 0) (record { task = has.task; job = has.job }) in
      let here : get_or s.places i 0 < length (c.actions i (get_or s.ended i 0)) =
      stands (c.actions i (get_or s.ended i 0)) (get_or s.places i 0) (λ e. none (sym is ∙ e)) in
      let here_places : get_or t.places i 0 ≡ get_or s.places i 0 + 1 =
      ap (λ (xs : List ℕ). get_or xs i 0) places ∙ get_or-set_at s.places i i (get_or s.places i 0 + 1) 0 refl in_places in
      let falls : left_of c t i < left_of c s i =
      (omega (arith, ap (λ (k : ℕ). (c.jobs i - k) * (many + 1)) (ap (λ (xs : List ℕ). get_or xs i 0) ended), here_places, here, few)) in
      let sums : sum_below (left_of c t) c.tasks < sum_below (left_of c s) c.tasks =
      less_of_all t falls (λ j other. ap (λ (xs : List ℕ). get_or xs j 0) ended)
      (λ j other. ap (λ (xs : List ℕ). get_or xs j 0) places ∙ get_or-set_other s.places i j (get_or s.places i 0 + 1) 0 other) in
      omega (arith, sums, ap (λ (k : ℕ). c.end - k) now)

  ends : left_in c (after_action s i actions.End) < left_in c s
  ends =
      let t : ExecState = after_action s i actions.End in
      let here_ended : get_or t.ended i 0 ≡ get_or s.ended i 0 + 1 = get_or-set_at s.ended i i (get_or s.ended i 0 + 1) 0 refl in_ended in
      let here_places : get_or t.places i 0 ≡ 0 = get_or-set_at s.places i i 0 0 refl in_places in
      let falls : left_of c t i < left_of c s i =
      (omega (arith, ap (λ (k : ℕ). (c.jobs i - k) * (many + 1)) here_ended, here_places, has.job)) in
      let sums : sum_below (left_of c t) c.tasks < sum_below (left_of c s) c.tasks =
      less_of_all t falls (λ j other. get_or-set_other s.ended i j (get_or s.ended i 0 + 1) 0 other) (λ j other. get_or-set_other s.places i j 0 0 other) in
      omega (arith, sums)

  acts : (action : Action) → next_action c s i ≡ action → left_in c (after_action s i action) < left_in c s
  acts (actions.ReadConst port value) is = moves (actions.ReadConst port value) is (λ e. cc) (after_action s i (actions.ReadConst port value)) refl refl refl
  acts (actions.Read port e m slot) is = moves (actions.Read port e m slot) is (λ e. cc) (after_action s i (actions.Read port e m slot)) refl refl refl
  acts (actions.Write e m slot) is = moves (actions.Write e m slot) is (λ e. cc) (after_action s i (actions.Write e m slot)) refl refl refl
  acts actions.End is = ends

-- each legal event leaves less
pub legal_event_leaves_less : (c : RunConstants) → HasPlanFacts c → (s : ExecState) → IsTagged c s → (event : Event) → KeepsLegal c s event →
    left_in c (after_event c s event) < left_in c s
legal_event_leaves_less c facts s tagged events.Tick may = omega (arith, may.within)
legal_event_leaves_less c facts s tagged (events.Act task) keeps = acts c facts s tagged task.0 keeps.0 (next_action c s task.0) refl
