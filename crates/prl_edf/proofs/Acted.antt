-- Lists of one event, and where a job's list of actions ends.
use Rattle.prl_base.proofs.Standard.{◌≡◌, ◌+◌, ◌<◌, ◌≤◌, ◌^◌, ◌++◌, ℕ, List, [], ◌∷◌, length, replicate, append_assoc, inl, inr, sym, ap, ◌∙◌, arith, cases_lt, replicate_more}
use Rattle.prl_plan.specs.declared.events.Action.TheVariants as actions
use Rattle.prl_plan.specs.declared.limits.TheConstants.{MAX_EVENTS}
use Rattle.prl_plan.specs.Vocabulary.{IsJob, RunConstants, action_at}
use Rattle.prl_plan.specs.declared.events.Event.{Event}
use Rattle.prl_edf.specs.Unrolled.{HaveOneEnd}

pub one_more_event : (old new start : List Event) (n : ℕ) (x : Event) → old ≡ start ++ replicate n x → new ≡ old ++ (x ∷ []) → new ≡ start ++ replicate (n + 1) x
one_more_event old new start n x was is =
    is ∙ ap (λ (l : List Event). l ++ (x ∷ [])) was ∙ append_assoc start (replicate n x) (x ∷ []) ∙ ap (λ (l : List Event). start ++ l) (replicate_more n x)

module _ (c : RunConstants) (one : HaveOneEnd c) (i n : ℕ) (job : IsJob c i n) (place : ℕ) (ahead : place < length (c.actions i n)) where
  pub is_last : action_at c i n place ≡ actions.End → place + 1 ≡ length (c.actions i n)
  is_last ends = (let h = one.only i n place job ends in omega (arith, h, ahead))

  pub goes_on : (action_at c i n place ≡ actions.End → ⊥) → place + 1 < length (c.actions i n)
  goes_on more = elim (cases_lt (place + 1) (length (c.actions i n))) [
    | inl before ↦ before
    | inr past ↦ absurd (let end = one.last i n job in
        let same : end.0 ≡ place = omega (arith, end.1, past, ahead) in
        more (ap (action_at c i n) (sym same) ∙ end.2))
  ]

-- the dates of a job within the end are small
pub small_dates : (events acts released due end : ℕ) → released < due → due ≤ end → events ≡ acts + end → events ≤ MAX_EVENTS → (released < 2 ^ 63) × (due < 2 ^ 63)
small_dates events acts released due end window within events_are few = (omega (arith, window, within, events_are, few), omega (arith, within, events_are, few))
