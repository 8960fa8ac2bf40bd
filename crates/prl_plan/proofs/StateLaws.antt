-- For the crates above: lemmas over public definitions alone, those of the laws of states in `src/laws.rt` and what a proof
-- about actions and halves asks for.
use Rattle.prl_base.proofs.Standard.{◌≡◌, ◌+◌, ◌%◌, ◌<◌, ◌⊎◌, ℕ, length, get_or, inl, inr, refl, ◌∙◌, ap, arith, slice_index}
use Rattle.prl_base.specs.declared.numbers.EdgeNo.{EdgeNo}
use Rattle.prl_base.specs.declared.numbers.TaskNo.{TaskNo}
use Rattle.prl_plan.specs.Vocabulary.{Action, Event, RunConstants, ExecState, opening, action_at, next_action, moved, after_action, after_event, PlanView, low, high, actions_of, IsActionOf, HasJob}
use Rattle.prl_plan.specs.Vocabulary.{ActsReleased, FindsTag, KeepsLegal, KeepsGated, first_unfinished, ReadsAt, HasPlanFacts, IsDone, IsTagged, IsSound}
use Rattle.prl_plan.specs.declared.events.Action.TheVariants as actions
use Rattle.prl_plan.specs.declared.events.Event.TheVariants as events
use Rattle.prl_plan.proofs.Actions.{actions_fit}
use Rattle.prl_plan.proofs.Tagged.{done_moved, ends_once}
use Rattle.prl_plan.proofs.Sound.{sound_opening, sound_event}
use Rattle.prl_plan.proofs.Legal.{legal_finds, legal_gated, write_finds_free}

-- the low half of a cell has an even number, the high half an odd one
pub low_is_even : (cell : ℕ) → low cell % 2 ≡ 0
low_is_even cell = omega arith

pub high_is_odd : (cell : ℕ) → high cell % 2 ≡ 1
high_is_odd cell = omega arith

-- an action of a job is as defined
pub action_is_as_defined : (plan : PlanView) (i n place : ℕ) → IsActionOf plan i n (get_or (actions_of plan i n) place actions.End)
action_is_as_defined = actions_fit

module _ (c : RunConstants) (facts : HasPlanFacts c) where
  pub opening_is_sound : IsSound c (opening c)
  opening_is_sound = sound_opening c facts

  pub gated_event_keeps_sound : (s : ExecState) → IsSound c s → (event : Event) → KeepsGated c s event → IsSound c (after_event c s event)
  gated_event_keeps_sound = sound_event c facts

  pub legal_event_is_gated : (s : ExecState) → IsSound c s → (event : Event) → KeepsLegal c s event → KeepsGated c s event
  legal_event_is_gated = legal_gated c facts

  pub legal_read_finds_tag : (s : ExecState) → IsSound c s → (task : TaskNo) → KeepsLegal c s (events.Act task) → FindsTag s (next_action c s task.0)
  legal_read_finds_tag s sound task keeps = legal_finds c facts s sound task.0 keeps.0 keeps.1 keeps.2 (next_action c s task.0) refl

  pub write_finds_half_free : (s : ExecState) → IsSound c s → (i : ℕ) (e : EdgeNo) (m slot : ℕ) → HasJob c s i → ActsReleased c s i →
      next_action c s i ≡ actions.Write e m (record { 0 = slot }) → (j n place l : ℕ) → ReadsAt c j n place l slot → slice_index s.tags slot ≡ l + 1 →
      n < slice_index s.ended j
  write_finds_half_free = write_finds_free c facts

  one_move : (s : ExecState) → IsTagged c s → (i : ℕ) → HasJob c s i → (action : Action) → next_action c s i ≡ action → (j n place : ℕ) → IsDone (moved s i) j n place →
      IsDone s j n place ⊎ ((j ≡ i) × (n ≡ get_or s.ended i 0) × (action_at c j n place ≡ action))
  one_move s tagged i has action is j n place done =
      let inside : i < length s.places = omega (arith, tagged.places, has.task) in
      elim (done_moved c facts s i inside j n place done) [
        | inl before ↦ inl before
        | inr here ↦ inr (
          here.0,
          here.1,
          ap (λ x. action_at c x n place) here.0 ∙ ap (λ x. action_at c i x place) here.1
              ∙ ap (λ x. action_at c i (get_or s.ended i 0) x) here.2 ∙ is,
        )
      ]

  -- an act does the next action of its task, and no other
  pub act_does_one_action : (s : ExecState) → IsTagged c s → (i : ℕ) → HasJob c s i → (action : Action) → next_action c s i ≡ action → (j n place : ℕ) →
      IsDone (after_action s i action) j n place →
      IsDone s j n place ⊎ ((j ≡ i) × (n ≡ first_unfinished s i) × (action_at c j n place ≡ action))
  act_does_one_action s tagged i has (actions.ReadConst port value) is j n place done = one_move s tagged i has (actions.ReadConst port value) is j n place done
  act_does_one_action s tagged i has (actions.Read port e m slot) is j n place done = one_move s tagged i has (actions.Read port e m slot) is j n place done
  act_does_one_action s tagged i has (actions.Write e m slot) is j n place (inl below) =
      one_move s tagged i has (actions.Write e m slot) is j n place (inl below)
  act_does_one_action s tagged i has (actions.Write e m slot) is j n place (inr here) =
      one_move s tagged i has (actions.Write e m slot) is j n place (inr here)
  act_does_one_action s tagged i has actions.End is j n place done =
      ends_once c facts s i has is (omega (arith, tagged.ended, has.task)) (omega (arith, tagged.places, has.task)) j n place done
