-- What a legal event finds, in a sound state of a plan.
use Rattle.std.proofs.Common.{◌≡◌, ◌+◌, ◌/◌, ◌%◌, ◌-◌, ℕ, zero, suc, get_or, Some, inl, inr, refl, sym, ◌∙◌, ap, subst, arith}
use Rattle.prl_base.specs.declared.numbers.EdgeNo.{EdgeNo}
use Rattle.prl_base.specs.declared.numbers.TaskNo.{TaskNo}
use Rattle.prl_base.specs.declared.values.Value.{Value}
use Rattle.prl_plan.specs.Vocabulary.{IsJob, IsHorizonJob, IsPlan, edge_at, cell_of, low, high, IsActionOf, IsHigh, low_of, HasJob, KeepsLegal, FindsTag, action_at, next_action, IsSound}
use Rattle.prl_plan.specs.declared.events.Action.{Action}
use Rattle.prl_plan.specs.declared.events.Event.{Event}
use Rattle.prl_plan.specs.declared.events.SlotNo.{SlotNo}
use Rattle.prl_plan.specs.declared.events.Action.TheVariants as actions
use Rattle.prl_plan.specs.declared.events.Event.TheVariants as events
use Rattle.prl_plan.proofs.RoundPeriods.{task_is}
use Rattle.prl_plan.proofs.StateLaws.{legal_read_finds_tag, write_finds_half_free, action_is_as_defined, low_is_even}
use Rattle.prl_track.specs.Machine.{cell_no, sight_of_write}
use Rattle.prl_track.specs.declared.seen.Seen.{Seen}
use Rattle.prl_track.specs.declared.seen.Seen.TheVariants as sights
use Rattle.prl_values.specs.JobValues.{value_on}
use Rattle.prl_core.specs.Vocabulary.{CoreView, constants, values_of, Tells, IsRead, IsReadConst, IsSightOf, IsSightOfRead, HasCoreLaws}

module _ (core : CoreView) (is_plan : IsPlan core.plan) (sound : IsSound (constants core) core.state) (laws : HasCoreLaws core) where
  module _ (task : TaskNo) (keeps : KeepsLegal (constants core) core.state (events.Act task)) where
    has : HasJob (constants core) core.state task.0
    has = keeps.0

    is_job : IsJob (constants core) task.0 (get_or core.state.ended task.0 0)
    is_job = record { task = has.task; job = has.job }

    pub horizon_job : IsHorizonJob core.plan.graph core.horizon.until task.0 (get_or core.state.ended task.0 0)
    horizon_job =
        let period = (task_is core.plan.graph is_plan.graph task.0 has.task).period in
        (laws.counted task.0 (get_or core.state.ended task.0 0) has.task (omega (arith, period.0))).1 has.job

    pub fits_action : (action : Action) → next_action (constants core) core.state task.0 ≡ action → IsActionOf core.plan task.0 (get_or core.state.ended task.0 0) action
    fits_action action is =
        subst (λ (a : Action). IsActionOf core.plan task.0 (get_or core.state.ended task.0 0) a) is
        (action_is_as_defined core.plan task.0 (get_or core.state.ended task.0 0) (get_or core.state.places task.0 0))

    -- a constant that is read is the operand of its edge
    pub constant_on : (port : ℕ) (value : Value) → next_action (constants core) core.state task.0 ≡ actions.ReadConst port value → IsReadConst core task (get_or core.state.ended task.0 0) port value
    constant_on port value is =
        let fits = fits_action (actions.ReadConst port value) is in
        record { edge = fits.0; inside = fits.1; consumer = fits.2; stands = fits.3; operand = fits.4 }

    module _ (port : ℕ) (edge : EdgeNo) (m : ℕ) (slot : SlotNo) (is : next_action (constants core) core.state task.0 ≡ actions.Read port edge m slot) where
      read_fits : IsActionOf core.plan task.0 (get_or core.state.ended task.0 0) (actions.Read port edge m slot)
      read_fits = fits_action (actions.Read port edge m slot) is

      pub finds : get_or core.state.tags slot.0 0 ≡ m + 1
      finds = subst (FindsTag core.state) is (legal_read_finds_tag (constants core) laws.facts core.state sound task keeps)

      -- at a high half, it is that of the instance's cell, and the low half holds the instance too
      high_there : (half : ℕ) → slot.0 % 2 ≡ suc half → slot.0 ≡ high (cell_of core.plan edge.0 m)
      high_there half odd = elim read_fits.4 [
        | inl at_low ↦ absurd (let z = low_is_even (cell_of core.plan edge.0 m) in let s : slot.0 % 2 ≡ low (cell_of core.plan edge.0 m) % 2 = ap (λ (x : ℕ). x % 2) at_low in omega (arith, z, s, odd))
        | inr at_high ↦ at_high
      ]

      low_there : (half : ℕ) → slot.0 % 2 ≡ suc half → get_or core.state.tags (low (cell_of core.plan edge.0 m)) 0 ≡ m + 1
      low_there half odd =
          let at_high = high_there half odd in
          let is_high : IsHigh (action_at (constants core) task.0 (get_or core.state.ended task.0 0) (get_or core.state.places task.0 0)) =
          subst IsHigh (sym is) (cell_of core.plan edge.0 m, at_high) in
          let before = laws.facts.paired task.0 (get_or core.state.ended task.0 0) (get_or core.state.places task.0 0) is_job is_high in
          let low_slot : slot.0 - 1 ≡ low (cell_of core.plan edge.0 m) = omega (arith, at_high) in
          let its : action_at (constants core) task.0 (get_or core.state.ended task.0 0) before.0 ≡ actions.Read port edge m (record { 0 = low (cell_of core.plan edge.0 m) }) =
          before.2 ∙ ap low_of is ∙ ap (λ (x : ℕ). actions.Read port edge m (record { 0 = x })) low_slot in
          let above = sound.held task.0 (get_or core.state.ended task.0 0) before.0 m (low (cell_of core.plan edge.0 m))
          (record { job = is_job; action = (port, edge, its) }) has in
          let pair = laws.halves core.state sound.tagged (cell_of core.plan edge.0 m) in
          let here : get_or core.state.tags (high (cell_of core.plan edge.0 m)) 0 ≡ m + 1 = ap (λ (x : ℕ). get_or core.state.tags x 0) (sym at_high) ∙ finds in
          omega (arith, above, pair, here)

      pub whole_read : (half : ℕ) → slot.0 % 2 ≡ suc half → (value : Value) →
          value_on (values_of core) (edge_at core.plan.graph edge.0) (get_or core.state.ended task.0 0) ≡ Some value →
          IsRead core task (get_or core.state.ended task.0 0) port edge m (cell_no slot) value
      whole_read half odd value told =
          let at_high = high_there half odd in
          let cell : slot.0 / 2 ≡ cell_of core.plan edge.0 m = omega (arith, at_high) in
          record {
            inside = read_fits.0;
            consumer = read_fits.1;
            stands = read_fits.2;
            operand = read_fits.3;
            place = cell;
            low_half = ap (λ (x : ℕ). get_or core.state.tags (low x) 0) cell ∙ low_there half odd;
            high_half = ap (λ (x : ℕ). get_or core.state.tags (high x) 0) cell ∙ ap (λ (x : ℕ). get_or core.state.tags x 0) (sym at_high) ∙ finds;
            told = told;
          }

      -- the value of what is read is there
      value_there : (value : Value) × (value_on (values_of core) (edge_at core.plan.graph edge.0) (get_or core.state.ended task.0 0) ≡ Some value)
      value_there =
          let typed = laws.edges edge.0 (get_or core.state.ended task.0 0) read_fits.0
          (subst (λ (i : ℕ). IsHorizonJob core.plan.graph core.horizon.until i (get_or core.state.ended task.0 0)) (sym read_fits.1) horizon_job) in
          (typed.0, typed.1)

      read_told : (half : ℕ) → slot.0 % 2 ≡ half → (seen : Seen) × IsSightOfRead core task (get_or core.state.ended task.0 0) port edge m (cell_no slot) half seen
      read_told zero even = (sights.Half task (get_or core.state.ended task.0 0) edge (cell_no slot), refl)
      read_told (suc half) odd =
          let there = value_there in (
            sights.Read task (get_or core.state.ended task.0 0) port edge m (cell_no slot) there.0,
            (there.0, refl, whole_read half odd there.0 there.1),
          )

    act_told : (action : Action) → next_action (constants core) core.state task.0 ≡ action → (seen : Seen) × IsSightOf core task (get_or core.state.ended task.0 0) action seen
    act_told (actions.ReadConst port value) is = (sights.ReadConst task (get_or core.state.ended task.0 0) port value, (refl, constant_on port value is))
    act_told (actions.Read port edge m slot) is =
        let told = read_told port edge m slot is (slot.0 % 2) refl in
        (told.0, (finds port edge m slot is, told.1))
    act_told (actions.Write edge m slot) is = (
      sight_of_write task (get_or core.state.ended task.0 0) edge (cell_no slot) (slot.0 % 2),
      (
        λ j k place l reads holds. write_finds_half_free (constants core) laws.facts core.state sound task.0 edge m slot.0 keeps.0 keeps.1 is j k place l reads holds,
        refl,
      ),
    )
    act_told actions.End is = (sights.Ended task (get_or core.state.ended task.0 0), refl)

  -- something is told of each legal event
  pub event_told : (event : Event) → KeepsLegal (constants core) core.state event → (seen : Seen) × Tells core event seen
  event_told events.Tick keeps = (sights.Ticked (core.state.now + 1), refl)
  event_told (events.Act task) keeps = act_told task keeps (next_action (constants core) core.state task.0) refl
