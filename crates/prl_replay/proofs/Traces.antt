-- Each legal and complete list of events has a replay.
use Rattle.prl_base.proofs.Standard.{◌≡◌, ◌<◌, ◌≤◌, ◌++◌, ℕ, zero, suc, List, [], ◌∷◌, length, refl, arith, filter}
use Rattle.prl_base.specs.declared.values.Value.{Value}
use Rattle.prl_flow.specs.declared.programs.OutFlow.{OutFlow}
use Rattle.prl_plan.specs.Vocabulary.{HasPlanFacts, task_at, IsLegal, IsComplete, KeepsLegal, ExecState, IsSound}
use Rattle.prl_plan.specs.declared.events.Event.{Event}
use Rattle.prl_plan.specs.declared.graphs.Kind.{Kind}
use Rattle.prl_plan.specs.declared.graphs.Kind.TheVariants as kinds
use Rattle.prl_plan.proofs.StateLaws.{gated_event_keeps_sound, legal_event_is_gated}
use Rattle.prl_track.specs.Machine.{Drives}
use Rattle.prl_track.specs.declared.seen.Seen.{Seen}
use Rattle.prl_core.specs.Cores.{CoreView, constants, Tells, AreOutputs}
use Rattle.prl_replay.specs.Replays.{is_read, after, after_all, TellsAll, AddsFlow, AreFlowsBelow, IsTrace}

module _ (core : CoreView) (facts : HasPlanFacts (constants core))
    (tells : (s : ExecState) → IsSound (constants core) s → (event : Event) → KeepsLegal (constants core) s event → (seen : Seen) × Tells (record core { state = s }) event seen)
    (gives : (s : ExecState) → IsSound (constants core) s → (i k : ℕ) → Drives core.plan i k → (values : List Value) × AreOutputs (record core { state = s }) i values) where
  abbrev at : ExecState → CoreView
  at s = record core { state = s }

  all_told : (s : ExecState) → IsSound (constants core) s → (list : List Event) → IsLegal (constants core) s list →
      (seens : List Seen) × TellsAll (record core { state = s }) list seens × IsSound (constants core) (after_all (record core { state = s }) list).state
  all_told s sound [] legal = ([], tt, sound)
  all_told s sound (event ∷ list) legal =
      let first = tells s sound event legal.0 in
      let next = gated_event_keeps_sound (constants core) facts s sound event (legal_event_is_gated (constants core) facts s sound event legal.0) in
      let rest = all_told (after (record core { state = s }) event).state next list legal.1 in
      (first.0 ∷ rest.0, (first.1, rest.1), rest.2)

  added : (s : ExecState) → IsSound (constants core) s → (i : ℕ) → i < length core.plan.graph.tasks → (kind : Kind) → (task_at core.plan.graph i).kind ≡ kind → (before : List OutFlow) →
      (outs : List OutFlow) × AddsFlow (record core { state = s }) i kind before outs
  added s sound i inside (kinds.Sensor k) is before = (before, refl)
  added s sound i inside (kinds.Node k) is before = (before, refl)
  added s sound i inside (kinds.Actuator k) is before =
      let values = gives s sound i k (inside, is) in
      let out : OutFlow = record { name = (task_at core.plan.graph i).name; clock = (task_at core.plan.graph i).clock; values = values.0 } in (
        before ++ out ∷ [],
        (out, refl, record { name = refl; clock = refl; values = values.1 }),
      )

  flows : (s : ExecState) → IsSound (constants core) s → (k : ℕ) → k ≤ length core.plan.graph.tasks → (outs : List OutFlow) × AreFlowsBelow (record core { state = s }) k outs
  flows s sound zero within = ([], refl)
  flows s sound (suc k) within =
      let before = flows s sound k (omega (arith, within)) in
      let next = added s sound k (omega (arith, within)) (task_at core.plan.graph k).kind refl before.0 in
      (next.0, (before.0, before.1, next.1))

  pub replayed : IsSound (constants core) core.state → (list : List Event) → IsLegal (constants core) core.state list → IsComplete (constants core) (after_all core list).state →
      (reads : List Seen) × (outs : List OutFlow) × IsTrace core list reads outs
  replayed sound list legal complete =
      let told = all_told core.state sound list legal in
      let ends = flows (after_all core list).state told.2 (length core.plan.graph.tasks) (omega arith) in (
        filter is_read told.0,
        ends.0,
        record {
          run = record { legal = legal; complete = complete; seens = told.0; told = told.1; kept = refl };
          flows = ends.1;
        },
      )
