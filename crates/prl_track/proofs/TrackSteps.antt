-- What a track keeps is kept by each event that the rules allow.
use Rattle.prl_base.proofs.Standard.{◌≡◌, ◌≢◌, ◌+◌, ◌^◌, ◌<◌, ◌≤◌, ℕ, zero, suc, List, length, replicate, get_or, set, take, Option, Some, None, refl, sym, ◌∙◌, ap, subst, arith}
use Rattle.prl_base.proofs.Standard.{inl, inr, slice_get, MatchOption, cases_eq, get_or_default_zero, get_or-set_at, get_or-set_other, length-replicate, slice_get_read}
use Rattle.std.proofs.lemmas.List.{length-set}
use Rattle.prl_base.specs.declared.numbers.EdgeNo.{EdgeNo}
use Rattle.prl_base.specs.declared.numbers.TaskNo.{TaskNo}
use Rattle.prl_plan.specs.Vocabulary.{HasPlanFacts, IsHorizon, Placement, constants_on, PlanView, IsActionOf, MayTick, HasJob, KeepsLegal, first_unfinished, RunConstants, ExecState, next_action}
use Rattle.prl_plan.specs.Vocabulary.{moved, after_action, IsSound}
use Rattle.prl_plan.specs.declared.events.Action.{Action}
use Rattle.prl_plan.specs.declared.events.SlotNo.{SlotNo}
use Rattle.prl_plan.specs.declared.horizons.Horizon.{Horizon}
use Rattle.prl_plan.specs.declared.events.Action.TheVariants as actions
use Rattle.prl_plan.specs.declared.events.Event.TheVariants as events
use Rattle.prl_plan.proofs.StateLaws.{gated_event_keeps_sound, legal_event_is_gated, opening_is_sound, action_is_as_defined}
use Rattle.prl_track.specs.Vocabulary.{First, Access, Cursor, TrackView, run_of, IsFirstAt, AreFirsts, IsFirstOf, IsReading, AreCursors, IsAt, AreRoutes, on_route, route_of, IsTrack}
use Rattle.prl_track.proofs.Falls.{stands}
use Rattle.prl_track.proofs.Places.{slice_get_set_same, slice_get_set_other}

reading_moves : (s : ExecState) (i : ℕ) (action : Action) → IsReading action → after_action s i action ≡ moved s i
reading_moves s i (actions.ReadConst port value) h = refl
reading_moves s i (actions.Read port e m slot) h = refl
reading_moves s i (actions.Write e m slot) h = absurd h
reading_moves s i actions.End h = absurd h

-- what reads or writes does not end the job
pub reads_on : (action : Action) → IsReading action → action ≡ actions.End → ⊥
reads_on action reads ends = subst IsReading ends reads

no_end : (edge : EdgeNo) (job : ℕ) (slot : SlotNo) → actions.Write edge job slot ≡ actions.End → ⊥
no_end edge job slot e = cc

pub goes_on : (action : Action) (edge : EdgeNo) (job : ℕ) (slot : SlotNo) → action ≡ actions.Write edge job slot → action ≡ actions.End → ⊥
goes_on action edge job slot its ends = no_end edge job slot (sym its ∙ ends)

-- a cursor one action further
pub cursor_moves : (plan : PlanView) (i n place : ℕ) (cursor next : Cursor) → IsAt plan i n place cursor → next.index ≡ cursor.index → next.rest ≡ cursor.rest + 1 →
    IsAt plan i n (place + 1) next
cursor_moves plan i n place cursor next at index rest =
    let l = ap (λ (k : ℕ). length (on_route plan n (take k (route_of plan.graph i)))) index in
    record { inside = omega (arith, at.inside, index); stands = omega (arith, at.stands, l, rest) }

pub cursor_opens : (plan : PlanView) (i n : ℕ) → IsAt plan i n 0 (record { index = 0; rest = 0 })
cursor_opens plan i n = record { inside = omega arith; stands = refl }

-- the element of a list where one was set
set_at : {A : Type 0} (xs : List A) (i j : ℕ) (v x : A) → i < length xs → slice_get (set xs i v) j ≡ Some x → j ≡ i → x ≡ v
set_at xs i j v x inside here same =
    let at : slice_get (set xs i v) i ≡ Some v = slice_get_set_same xs i v inside in
    let there : slice_get (set xs i v) i ≡ Some x = sym (ap (λ (k : ℕ). slice_get (set xs i v) k) same) ∙ here in
    cc

pub cursors_set : (plan : PlanView) (ended places ended' places' : List ℕ) (cursors : List Cursor) (i : ℕ) (next : Cursor) → i < length plan.graph.tasks →
    AreCursors plan ended places cursors → ((j : ℕ) → j ≢ i → get_or ended' j 0 ≡ get_or ended j 0) → ((j : ℕ) → j ≢ i → get_or places' j 0 ≡ get_or places j 0) →
    IsAt plan i (get_or ended' i 0) (get_or places' i 0) next → AreCursors plan ended' places' (set cursors i next)
cursors_set plan ended places ended' places' cursors i next inside are same_ended same_places at = record {
  tasks = length-set cursors i next ∙ are.tasks;
  each = each;
}
  where
    each : (j : ℕ) (cursor : Cursor) → slice_get (set cursors i next) j ≡ Some cursor → IsAt plan j (get_or ended' j 0) (get_or places' j 0) cursor
    each j cursor here = elim (cases_eq j i) [
      | inl same ↦
          (let is : cursor ≡ next = set_at cursors i j next cursor (omega (arith, are.tasks, inside)) here same in
          subst (λ (x : Cursor). IsAt plan j (get_or ended' j 0) (get_or places' j 0) x) (sym is)
          (subst (λ (k : ℕ). IsAt plan k (get_or ended' k 0) (get_or places' k 0) next) (sym same) at))
      | inr other ↦
          (let old : IsAt plan j (get_or ended j 0) (get_or places j 0) cursor = are.each j cursor (sym (slice_get_set_other cursors i j next other) ∙ here) in
          subst (λ (n : ℕ). IsAt plan j n (get_or places' j 0) cursor) (sym (same_ended j other))
          (subst (λ (p : ℕ). IsAt plan j (get_or ended j 0) p cursor) (sym (same_places j other)) old))
    ]

pub firsts_set : (c : RunConstants) (ended ended' : List ℕ) (firsts : List (Option First)) (i : ℕ) (next : Option First) → i < c.tasks → AreFirsts c ended firsts →
    ((j : ℕ) → j ≢ i → get_or ended' j 0 ≡ get_or ended j 0) →
    MatchOption next (c.jobs i ≤ get_or ended' i 0) (IsFirstAt c i (get_or ended' i 0)) → AreFirsts c ended' (set firsts i next)
firsts_set c ended ended' firsts i next inside are same_ended is = record {
  tasks = length-set firsts i next ∙ are.tasks;
  each = each;
}
  where
    each : (j : ℕ) (kept : Option First) → slice_get (set firsts i next) j ≡ Some kept →
        MatchOption kept (c.jobs j ≤ get_or ended' j 0) (IsFirstAt c j (get_or ended' j 0))
    each j kept here = elim (cases_eq j i) [
      | inl same ↦
          (let its : kept ≡ next = set_at firsts i j next kept (omega (arith, are.tasks, inside)) here same in
          subst (λ (x : Option First). MatchOption x (c.jobs j ≤ get_or ended' j 0) (IsFirstAt c j (get_or ended' j 0))) (sym its)
          (subst (λ (k : ℕ). MatchOption next (c.jobs k ≤ get_or ended' k 0) (IsFirstAt c k (get_or ended' k 0))) (sym same) is))
      | inr other ↦
          subst (λ (n : ℕ). MatchOption kept (c.jobs j ≤ n) (IsFirstAt c j n)) (sym (same_ended j other))
          (are.each j kept (sym (slice_get_set_other firsts i j next other) ∙ here))
    ]

module _ (track : TrackView) (facts : HasPlanFacts (run_of track)) (firsts : List (Option First)) (routes : List (List Access)) (cursors : List Cursor)
    (is : IsTrack track firsts routes cursors) where
  pub tick_kept : MayTick (run_of track) track.state → IsTrack (record track { state = record track.state { now = track.state.now + 1 } }) firsts routes cursors
  tick_kept may = record {
    horizon = is.horizon;
    windows = is.windows;
    facts = is.facts;
    sound = gated_event_keeps_sound (run_of track) facts track.state is.sound events.Tick may;
    first_jobs = is.first_jobs;
    edges = is.edges;
    standing = is.standing;
  }

  -- an act that the rules allow keeps a sound state
  sound_act : (task : TaskNo) → KeepsLegal (run_of track) track.state (events.Act task) → (action : Action) →
      next_action (run_of track) track.state task.0 ≡ action → IsSound (run_of track) (after_action track.state task.0 action)
  sound_act task keeps action its =
      subst (λ (a : Action). IsSound (run_of track) (after_action track.state task.0 a)) its
      (gated_event_keeps_sound (run_of track) facts track.state is.sound (events.Act task)
      (legal_event_is_gated (run_of track) facts track.state is.sound (events.Act task) keeps))

  module _ (task : TaskNo) (keeps : KeepsLegal (run_of track) track.state (events.Act task)) where
    has : HasJob (run_of track) track.state task.0
    has = keeps.0

    in_places : task.0 < length track.state.places
    in_places = omega (arith, is.sound.tagged.places, has.task)

    in_ended : task.0 < length track.state.ended
    in_ended = omega (arith, is.sound.tagged.ended, has.task)

    -- the cursors after an action that does not end the job
    moved_cursors : (next : Cursor) → IsAt track.plan task.0 (get_or track.state.ended task.0 0) (get_or track.state.places task.0 0 + 1) next →
        AreCursors track.plan track.state.ended (set track.state.places task.0 (get_or track.state.places task.0 0 + 1)) (set cursors task.0 next)
    moved_cursors next at =
        cursors_set track.plan track.state.ended track.state.places track.state.ended (set track.state.places task.0 (get_or track.state.places task.0 0 + 1)) cursors task.0 next has.task is.standing
        (λ j other. refl) (λ j other. get_or-set_other track.state.places task.0 j (get_or track.state.places task.0 0 + 1) 0 other)
        (subst (λ (p : ℕ). IsAt track.plan task.0 (get_or track.state.ended task.0 0) p next)
        (sym (get_or-set_at track.state.places task.0 task.0 (get_or track.state.places task.0 0 + 1) 0 refl in_places)) at)

    pub pass_kept : IsReading (next_action (run_of track) track.state task.0) → (next : Cursor) →
        IsAt track.plan task.0 (get_or track.state.ended task.0 0) (get_or track.state.places task.0 0 + 1) next →
        IsTrack (record track { state = moved track.state task.0 }) firsts routes (set cursors task.0 next)
    pass_kept reads next at = record {
      horizon = is.horizon;
      windows = is.windows;
      facts = is.facts;
      sound = subst (IsSound (run_of track)) (reading_moves track.state task.0 (next_action (run_of track) track.state task.0) reads)
          (sound_act task keeps (next_action (run_of track) track.state task.0) refl);
      first_jobs = is.first_jobs;
      edges = is.edges;
      standing = moved_cursors next at;
    }

    pub write_kept : (edge : EdgeNo) (m : ℕ) (slot : SlotNo) → next_action (run_of track) track.state task.0 ≡ actions.Write edge m slot → (next : Cursor) →
        IsAt track.plan task.0 (get_or track.state.ended task.0 0) (get_or track.state.places task.0 0 + 1) next →
        IsTrack (record track { state = after_action track.state task.0 (actions.Write edge m slot) }) firsts routes (set cursors task.0 next)
    write_kept edge m slot its next at = record {
      horizon = is.horizon;
      windows = is.windows;
      facts = is.facts;
      sound = sound_act task keeps (actions.Write edge m slot) its;
      first_jobs = is.first_jobs;
      edges = is.edges;
      standing = moved_cursors next at;
    }

    -- the half that is written is there
    pub written_in_tags : (edge : EdgeNo) (m : ℕ) (slot : SlotNo) → next_action (run_of track) track.state task.0 ≡ actions.Write edge m slot → slot.0 < length track.state.tags
    written_in_tags edge m slot its =
        let inside = facts.write_cell task.0 (first_unfinished track.state task.0) (get_or track.state.places task.0 0) m slot.0
        (record { job = record { task = has.task; job = has.job }; action = (edge, its) }) in
        omega (arith, is.sound.tagged.tags, inside)

    pub end_kept : next_action (run_of track) track.state task.0 ≡ actions.End → (next : Option First) →
        MatchOption next ((run_of track).jobs task.0 ≤ get_or track.state.ended task.0 0 + 1) (IsFirstAt (run_of track) task.0 (get_or track.state.ended task.0 0 + 1)) →
        IsTrack (record track { state = after_action track.state task.0 actions.End }) (set firsts task.0 next) routes (set cursors task.0 (record { index = 0; rest = 0 }))
    end_kept its next first = record {
      horizon = is.horizon;
      windows = is.windows;
      facts = is.facts;
      sound = sound_act task keeps actions.End its;
      first_jobs = firsts_set (run_of track) track.state.ended (set track.state.ended task.0 (get_or track.state.ended task.0 0 + 1)) firsts task.0 next has.task is.first_jobs
          (λ j other. get_or-set_other track.state.ended task.0 j (get_or track.state.ended task.0 0 + 1) 0 other)
          (subst (λ (n : ℕ). MatchOption next ((run_of track).jobs task.0 ≤ n) (IsFirstAt (run_of track) task.0 n))
          (sym (get_or-set_at track.state.ended task.0 task.0 (get_or track.state.ended task.0 0 + 1) 0 refl in_ended)) first);
      edges = is.edges;
      standing = cursors_set track.plan track.state.ended track.state.places (set track.state.ended task.0 (get_or track.state.ended task.0 0 + 1)) (set track.state.places task.0 0) cursors task.0
          (record { index = 0; rest = 0 }) has.task is.standing
          (λ j other. get_or-set_other track.state.ended task.0 j (get_or track.state.ended task.0 0 + 1) 0 other)
          (λ j other. get_or-set_other track.state.places task.0 j 0 0 other)
          (subst (λ (p : ℕ). IsAt track.plan task.0 (get_or (set track.state.ended task.0 (get_or track.state.ended task.0 0 + 1)) task.0 0) p (record { index = 0; rest = 0 }))
          (sym (get_or-set_at track.state.places task.0 task.0 0 0 refl in_places))
          (cursor_opens track.plan task.0 (get_or (set track.state.ended task.0 (get_or track.state.ended task.0 0 + 1)) task.0 0)));
    }

-- what a call of a track is told of its view, and what it keeps of its fields
module _ {track v : TrackView} (seen : track ≡ v) {firsts : List (Option First)} {routes : List (List Access)} {cursors : List Cursor} (is : IsTrack track firsts routes cursors) where
  pub ticks_on : MayTick (run_of v) v.state → IsTrack (record track { state = record track.state { now = track.state.now + 1 } }) firsts routes cursors
  ticks_on may = tick_kept track is.facts firsts routes cursors is (subst (λ (w : TrackView). MayTick (run_of w) w.state) (sym seen) may)

  module _ (task : TaskNo) (allowed : KeepsLegal (run_of v) v.state (events.Act task)) where
    keeps : KeepsLegal (run_of track) track.state (events.Act task)
    keeps = subst (λ (w : TrackView). KeepsLegal (run_of w) w.state (events.Act task)) (sym seen) allowed

    pub task_inside : task.0 < length track.plan.graph.tasks
    task_inside = keeps.0.task

    pub place_inside : task.0 < length track.state.places
    place_inside = omega (arith, is.sound.tagged.places, keeps.0.task)

    pub ended_inside : task.0 < length track.state.ended
    ended_inside = omega (arith, is.sound.tagged.ended, keeps.0.task)

    pub first_inside : task.0 < length firsts
    first_inside = omega (arith, is.first_jobs.tasks, keeps.0.task)

    pub cursor_inside : task.0 < length cursors
    cursor_inside = omega (arith, is.standing.tasks, keeps.0.task)

    -- the place that is read is the task's
    place_read : (p : ℕ) → p ≡ get_or track.state.places task.0 p → p ≡ get_or track.state.places task.0 0
    place_read p read = read ∙ get_or_default_zero track.state.places task.0 p (omega (arith, is.sound.tagged.places, keeps.0.task))

    -- where the job has more to do, its place has room for one more
    module _ (more : next_action (run_of v) v.state task.0 ≡ actions.End → ⊥) where
      place_small : get_or track.state.places task.0 0 + 1 < 2 ^ 32
      place_small =
          let few = is.facts.short task.0 (first_unfinished track.state task.0) (record { task = keeps.0.task; job = keeps.0.job }) in
          let here = stands ((run_of track).actions task.0 (first_unfinished track.state task.0)) (get_or track.state.places task.0 0)
          (subst (λ (w : TrackView). next_action (run_of w) w.state task.0 ≡ actions.End → ⊥) (sym seen) more) in
          omega (arith, few, here)

      pub place_fits : (p : ℕ) → p ≡ get_or track.state.places task.0 p → p + 1 < 2 ^ 32
      place_fits p read = omega (arith, place_read p read, place_small)

      pub cursor_fits : (cursor : Cursor) → IsAt v.plan task.0 (first_unfinished v.state task.0) (get_or v.state.places task.0 0) cursor → cursor.rest + 1 < 2 ^ 32
      cursor_fits cursor at =
          omega (arith, at.stands, ap (λ (w : TrackView). get_or w.state.places task.0 0) seen, place_small)

    -- what is seen of the track after a step of the task
    pub passed_view : (p : ℕ) → p ≡ get_or track.state.places task.0 p →
        record track { state = record track.state { places = set track.state.places task.0 (p + 1) } } ≡ record v { state = moved v.state task.0 }
    passed_view p read =
        ap (λ (q : ℕ). record track { state = record track.state { places = set track.state.places task.0 (q + 1) } }) (place_read p read)
        ∙ ap (λ (w : TrackView). record w { state = moved w.state task.0 }) seen

    pub written_view : (p : ℕ) → p ≡ get_or track.state.places task.0 p → (edge : EdgeNo) (job : ℕ) (slot : SlotNo) →
        next_action (run_of v) v.state task.0 ≡ actions.Write edge job slot →
        record track { state = record track.state { places = set track.state.places task.0 (p + 1); tags = set track.state.tags slot.0 (job + 1) } }
        ≡ record v { state = after_action v.state task.0 (next_action (run_of v) v.state task.0) }
    written_view p read edge job slot its =
        ap (λ (q : ℕ). record track { state = record track.state { places = set track.state.places task.0 (q + 1); tags = set track.state.tags slot.0 (job + 1) } }) (place_read p read)
        ∙ ap (λ (w : TrackView). record w { state = after_action w.state task.0 (actions.Write edge job slot) }) seen
        ∙ ap (λ (a : Action). record v { state = after_action v.state task.0 a }) (sym its)

    pub ended_view : (job : ℕ) → job ≡ first_unfinished v.state task.0 →
        record track { state = record track.state { ended = set track.state.ended task.0 (job + 1); places = set track.state.places task.0 0 } }
        ≡ record v { state = after_action v.state task.0 actions.End }
    ended_view job now =
        ap (λ (n : ℕ). record track { state = record track.state { ended = set track.state.ended task.0 (n + 1); places = set track.state.places task.0 0 } })
        (subst (λ (w : TrackView). job ≡ first_unfinished w.state task.0) (sym seen) now)
        ∙ ap (λ (w : TrackView). record w { state = after_action w.state task.0 actions.End }) seen

    writes : (edge : EdgeNo) (job : ℕ) (slot : SlotNo) → next_action (run_of v) v.state task.0 ≡ actions.Write edge job slot →
        next_action (run_of track) track.state task.0 ≡ actions.Write edge job slot
    writes edge job slot its = subst (λ (w : TrackView). next_action (run_of w) w.state task.0 ≡ actions.Write edge job slot) (sym seen) its

    -- the half that is written is there
    pub slot_inside : (edge : EdgeNo) (job : ℕ) (slot : SlotNo) → next_action (run_of v) v.state task.0 ≡ actions.Write edge job slot → slot.0 < length track.state.tags
    slot_inside edge job slot its = written_in_tags track is.facts firsts routes cursors is task keeps edge job slot (writes edge job slot its)

    module _ (p : ℕ) (read : p ≡ get_or track.state.places task.0 p) (cursor next : Cursor) (at : IsAt v.plan task.0 (first_unfinished v.state task.0) (get_or v.state.places task.0 0) cursor)
        (moves : next ≡ record { index = cursor.index; rest = cursor.rest + 1 }) where
      stands_next : IsAt track.plan task.0 (first_unfinished track.state task.0) (get_or track.state.places task.0 0 + 1) next
      stands_next = cursor_moves track.plan task.0 (first_unfinished track.state task.0) (get_or track.state.places task.0 0) cursor next
          (subst (λ (w : TrackView). IsAt w.plan task.0 (first_unfinished w.state task.0) (get_or w.state.places task.0 0) cursor) (sym seen) at)
          (ap (λ (x : Cursor). x.index) moves) (ap (λ (x : Cursor). x.rest) moves)

      pub passes_on : IsReading (next_action (run_of v) v.state task.0) →
          IsTrack (record track { state = record track.state { places = set track.state.places task.0 (p + 1) } }) firsts routes (set cursors task.0 next)
      passes_on reads = subst (λ (q : ℕ). IsTrack (record track { state = record track.state { places = set track.state.places task.0 (q + 1) } }) firsts routes (set cursors task.0 next))
          (sym (place_read p read)) (pass_kept track is.facts firsts routes cursors is task keeps (subst (λ (w : TrackView). IsReading (next_action (run_of w) w.state task.0)) (sym seen) reads) next stands_next)

      pub writes_on : (edge : EdgeNo) (job : ℕ) (slot : SlotNo) → next_action (run_of v) v.state task.0 ≡ actions.Write edge job slot →
          IsTrack (record track { state = record track.state { places = set track.state.places task.0 (p + 1); tags = set track.state.tags slot.0 (job + 1) } }) firsts routes (set cursors task.0 next)
      writes_on edge job slot its =
          subst (λ (q : ℕ). IsTrack (record track { state = record track.state { places = set track.state.places task.0 (q + 1); tags = set track.state.tags slot.0 (job + 1) } }) firsts routes (set cursors task.0 next))
          (sym (place_read p read)) (write_kept track is.facts firsts routes cursors is task keeps edge job slot (writes edge job slot its) next stands_next)

    module _ (job : ℕ) (now : job ≡ first_unfinished v.state task.0) where
      job_now : job ≡ first_unfinished track.state task.0
      job_now = subst (λ (w : TrackView). job ≡ first_unfinished w.state task.0) (sym seen) now

      pub ends_on : next_action (run_of v) v.state task.0 ≡ actions.End → (next : Option First) →
          MatchOption next ((run_of track).jobs task.0 ≤ job + 1) (IsFirstAt (run_of track) task.0 (job + 1)) →
          IsTrack (record track { state = record track.state { ended = set track.state.ended task.0 (job + 1); places = set track.state.places task.0 0 } })
          (set firsts task.0 next) routes (set cursors task.0 (record { index = 0; rest = 0 }))
      ends_on its next first =
          subst (λ (n : ℕ). MatchOption next ((run_of track).jobs task.0 ≤ n + 1) (IsFirstAt (run_of track) task.0 (n + 1)) →
          IsTrack (record track { state = record track.state { ended = set track.state.ended task.0 (n + 1); places = set track.state.places task.0 0 } })
          (set firsts task.0 next) routes (set cursors task.0 (record { index = 0; rest = 0 }))) (sym job_now)
          (end_kept track is.facts firsts routes cursors is task keeps (subst (λ (w : TrackView). next_action (run_of w) w.state task.0 ≡ actions.End) (sym seen) its) next) first

      -- the cursor that is read stands at the task's place
      pub stands_there : (p : ℕ) → p ≡ get_or track.state.places task.0 p → (cursor : Cursor) → cursor ≡ get_or cursors task.0 cursor → IsAt track.plan task.0 job p cursor
      stands_there p read cursor there =
          subst (λ (n : ℕ). IsAt track.plan task.0 n p cursor) (sym job_now)
          (subst (λ (q : ℕ). IsAt track.plan task.0 (first_unfinished track.state task.0) q cursor) (sym (place_read p read))
          (is.standing.each task.0 cursor (slice_get_read cursors (length cursors) task.0 cursor refl (omega (arith, is.standing.tasks, keeps.0.task)) there)))

-- what is kept of a task is its first unfinished job
pub first_of : (c : RunConstants) (s : ExecState) (j : ℕ) (kept : Option First) → j < c.tasks →
    MatchOption kept (c.jobs j ≤ get_or s.ended j 0) (IsFirstAt c j (get_or s.ended j 0)) → IsFirstOf c s j kept
first_of c s j None inside is = is
first_of c s j (Some first) inside is = record {
  job = is.job;
  left = record { task = inside; job = is.inside; unfinished = omega arith };
  release = is.release;
  deadline = is.deadline;
}

pub zeros : (n j : ℕ) → ◌≡◌ {A = ℕ} (get_or (replicate n 0) j 0) 0
zeros zero zero = refl
zeros zero (suc j) = refl
zeros (suc n) zero = refl
zeros (suc n) (suc j) = zeros n j

replicated : {A : Type 0} (n j : ℕ) (y x : A) → slice_get (replicate n y) j ≡ Some x → x ≡ y
replicated zero zero y x h = absurd cc
replicated zero (suc j) y x h = absurd cc
replicated (suc n) zero y x h = cc
replicated (suc n) (suc j) y x h = replicated n j y x h

pub cursors_open : (plan : PlanView) (ended places : List ℕ) (cursors : List Cursor) → cursors ≡ replicate (length plan.graph.tasks) (record { index = 0; rest = 0 }) →
    places ≡ replicate (length plan.graph.tasks) 0 → AreCursors plan ended places cursors
cursors_open plan ended places cursors is none = record {
  tasks = ap length is ∙ length-replicate (length plan.graph.tasks) (record { index = 0; rest = 0 });
  each = λ i cursor at.
      (let start : Cursor = record { index = 0; rest = 0 } in
      let its : cursor ≡ start = replicated (length plan.graph.tasks) i start cursor (ap (λ (xs : List Cursor). slice_get xs i) (sym is) ∙ at) in
      let zero_place : get_or places i 0 ≡ 0 = ap (λ (xs : List ℕ). get_or xs i 0) none ∙ zeros (length plan.graph.tasks) i in
      subst (λ (x : Cursor). IsAt plan i (get_or ended i 0) (get_or places i 0) x) (sym its)
      (subst (λ (p : ℕ). IsAt plan i (get_or ended i 0) p start) (sym zero_place) (cursor_opens plan i (get_or ended i 0))));
}

-- a job writes its own instance
pub writes_own : (plan : PlanView) (placement : Placement) (horizon : Horizon) (s : ExecState) (i n : ℕ) (e : EdgeNo) (m : ℕ) (slot : SlotNo) → n ≡ first_unfinished s i →
    next_action (constants_on plan placement horizon) s i ≡ actions.Write e m slot → next_action (constants_on plan placement horizon) s i ≡ actions.Write e n slot
writes_own plan placement horizon s i n e m slot now is =
    let fits : IsActionOf plan i (first_unfinished s i) (actions.Write e m slot) =
    subst (λ (a : Action). IsActionOf plan i (first_unfinished s i) a) is (action_is_as_defined plan i (first_unfinished s i) (get_or s.places i 0)) in
    is ∙ ap (λ (x : ℕ). actions.Write e x slot) (fits.2 ∙ sym now)

-- a track before the first event
pub opened_at : (plan : PlanView) (placement : Placement) (horizon : Horizon) → IsHorizon plan horizon → length placement.windows ≡ length plan.graph.tasks → HasPlanFacts (constants_on plan placement horizon) →
    (firsts : List (Option First)) (routes : List (List Access)) (cursors : List Cursor) → AreFirsts (constants_on plan placement horizon) (replicate (length plan.graph.tasks) 0) firsts →
    AreRoutes plan.graph routes → cursors ≡ replicate (length plan.graph.tasks) (record { index = 0; rest = 0 }) → (ended places tags : List ℕ) →
    ended ≡ replicate (length plan.graph.tasks) 0 → places ≡ replicate (length plan.graph.tasks) 0 → tags ≡ replicate (constants_on plan placement horizon).slots 0 →
    IsTrack (record { plan = plan; placement = placement; horizon = horizon; state = record { now = 0; ended = ended; places = places; tags = tags } }) firsts routes cursors
opened_at plan placement horizon is windows facts firsts routes cursors are_firsts are_routes are_cursors ended places tags is_ended is_places is_tags = record {
  horizon = is;
  windows = windows;
  facts = facts;
  sound = subst (λ (x : List ℕ). IsSound (constants_on plan placement horizon) (record { now = 0; ended = x; places = places; tags = tags })) (sym is_ended)
      (subst (λ (x : List ℕ). IsSound (constants_on plan placement horizon) (record { now = 0; ended = replicate (length plan.graph.tasks) 0; places = x; tags = tags })) (sym is_places)
      (subst (λ (x : List ℕ). IsSound (constants_on plan placement horizon) (record { now = 0; ended = replicate (length plan.graph.tasks) 0; places = replicate (length plan.graph.tasks) 0; tags = x })) (sym is_tags)
      (opening_is_sound (constants_on plan placement horizon) facts)));
  first_jobs = subst (λ (x : List ℕ). AreFirsts (constants_on plan placement horizon) x firsts) (sym is_ended) are_firsts;
  edges = are_routes;
  standing = cursors_open plan ended places cursors are_cursors is_places;
}
