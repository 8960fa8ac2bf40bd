-- The machine keeps what it has, event by event, and tells what it finds.
use Rattle.prl_base.proofs.Standard.{◌≡◌, ◌≢◌, ◌+◌, ◌%◌, ◌<◌, ℕ, zero, suc, List, length, get_or, set, Option, Some, inl, inr, refl, sym, ◌∙◌, ap, subst, arith, slice_get, pos, unwrap_or, cases_eq}
use Rattle.prl_base.proofs.Standard.{get_or-set_at, slice_get-get_or, slice_get_cases}
use Rattle.std.proofs.Common.{get_or-set_other}
use Rattle.std.proofs.lemmas.List.{length-set}
use Rattle.prl_base.specs.declared.numbers.EdgeNo.{EdgeNo}
use Rattle.prl_base.specs.declared.numbers.TaskNo.{TaskNo}
use Rattle.prl_base.specs.declared.values.Value.{Value}
use Rattle.prl_base.specs.declared.values.Value.TheVariants as values
use Rattle.prl_body.specs.declared.bodies.CheckedBody.{CheckedBody}
use Rattle.prl_flow.specs.Rows.{Rows}
use Rattle.prl_plan.specs.Vocabulary.{IsJob, ReadsAt, WritesAt, PlanView, edge_at, no_edge, completes, IsAtPort, IsActionOf, ComesFrom, constants_of, MayTick, HasJob, KeepsLegal, first_unfinished}
use Rattle.prl_plan.specs.Vocabulary.{action_at, next_action, moved, after_action, after_event, IsSound}
use Rattle.prl_plan.specs.declared.events.Action.{Action}
use Rattle.prl_plan.specs.declared.events.SlotNo.{SlotNo}
use Rattle.prl_plan.specs.declared.graphs.Producer.{Producer}
use Rattle.prl_plan.specs.declared.events.Action.TheVariants as actions
use Rattle.prl_plan.specs.declared.events.Event.TheVariants as events
use Rattle.prl_plan.specs.declared.graphs.Producer.TheVariants as producers
use Rattle.prl_plan.specs.declared.walks.Operand.TheVariants as operands
use Rattle.prl_plan.proofs.StateLaws.{gated_event_keeps_sound, legal_event_is_gated, write_finds_half_free}
use Rattle.prl_track.specs.Vocabulary.{cell_no, TrackView}
use Rattle.prl_track.specs.declared.seen.Seen.{Seen}
use Rattle.prl_track.proofs.Places.{slice_get_set_same, slice_get_set_other}
use Rattle.prl_values.specs.JobValues.{value_from, value_on, reads_of_job}
use Rattle.prl_values.specs.Workers.{HasBegun, IsWorker}
use Rattle.prl_values.specs.declared.workers.Worker.{Worker}
use Rattle.prl_core.specs.Vocabulary.{CoreView, constants, values_of, IsRead, IsReadConst, IsSightOf, IsSightOfRead, CanTake, CanBegin, CanGive, CanRead, CanServe, Takes, DoesRead, Gives, Ends}
use Rattle.prl_core.specs.Vocabulary.{Serves, HasCoreLaws, AreWorkers, AreHalves, IsKept}
use Rattle.prl_values.proofs.Operands.{Reads}
use Rattle.prl_values.proofs.PortReads.{read_at_port}
use Rattle.prl_values.proofs.Serving.{low_read as worker_reads_low, may_take, has_taken, may_begin, has_written, has_ended, port_of_edge, output_there, output_is}
use Rattle.prl_core.proofs.Telling.{fits_action, constant_on, finds, whole_read}

worker_there : (workers : List Worker) (i : ℕ) → i < length workers → (worker : Worker) × (slice_get workers i ≡ Some worker)
worker_there workers i inside =
    elim (slice_get_cases workers i).1 [
      | inl there ↦ (there.0, there.2)
      | inr past ↦ absurd (let p = past.0 in omega (arith, p, inside))
    ]

value_there : (halves : List Value) (k : ℕ) → k < length halves → (value : Value) × (slice_get halves k ≡ Some value)
value_there halves k inside =
    elim (slice_get_cases halves k).1 [
      | inl there ↦ (there.0, there.2)
      | inr past ↦ absurd (let p = past.0 in omega (arith, p, inside))
    ]

module _ (core : CoreView) (halves : List Value) (workers : List Worker) (kept : IsKept core halves workers) (laws : HasCoreLaws core) where
  pub tick_kept : MayTick (constants core) core.state → IsKept (record core { state = record core.state { now = core.state.now + 1 } }) halves workers
  tick_kept may = record {
    plan = kept.plan;
    horizon = kept.horizon;
    facts = kept.facts;
    bodies = kept.bodies;
    rows = kept.rows;
    sound = gated_event_keeps_sound (constants core) laws.facts core.state kept.sound events.Tick may;
    cells = record { slots = kept.cells.slots; stored = kept.cells.stored };
    tasks = record { tasks = kept.tasks.tasks; each = kept.tasks.each };
  }

  edge_stands : (e : ℕ) → e < length core.plan.graph.edges → slice_get core.plan.graph.edges e ≡ Some (edge_at core.plan.graph e)
  edge_stands e inside = slice_get-get_or core.plan.graph.edges e no_edge inside

  module _ (task : TaskNo) (keeps : KeepsLegal (constants core) core.state (events.Act task)) where
    abbrev i : ℕ
    i = task.0

    abbrev n : ℕ
    n = get_or core.state.ended task.0 0

    abbrev p : ℕ
    p = get_or core.state.places task.0 0

    has : HasJob (constants core) core.state task.0
    has = keeps.0

    is_job : IsJob (constants core) task.0 (get_or core.state.ended task.0 0)
    is_job = record { task = has.task; job = has.job }

    by_number : IsJob (constants_of core.plan core.horizon) task.0 (get_or core.state.ended task.0 0)
    by_number = record { task = is_job.task; job = is_job.job }

    in_places : task.0 < length core.state.places
    in_places = (let l = kept.sound.tagged.places in let t = has.task in omega (arith, l, t))

    in_ended : task.0 < length core.state.ended
    in_ended = (let l = kept.sound.tagged.ended in let t = has.task in omega (arith, l, t))

    worker : (w : Worker) × (slice_get workers task.0 ≡ Some w)
    worker = worker_there workers task.0 (let l = kept.tasks.tasks in let t = has.task in omega (arith, l, t))

    fit : (w : Worker) → slice_get workers task.0 ≡ Some w →
        IsWorker core.plan core.bodies core.horizon.until (values_of core) task.0 (get_or core.state.ended task.0 0) (get_or core.state.places task.0 0) w
    fit w its = kept.tasks.each task.0 w its

    -- what the job reads at a port, from the value on its edge
    value_at_port : (e : ℕ) → e < length core.plan.graph.edges → (edge_at core.plan.graph e).to.0 ≡ task.0 → (value : Value) →
        value_on (values_of core) (edge_at core.plan.graph e) (get_or core.state.ended task.0 0) ≡ Some value →
        slice_get (reads_of_job core.plan.graph (values_of core) task.0 (get_or core.state.ended task.0 0)) (edge_at core.plan.graph e).port ≡ Some value
    value_at_port e inside to value is =
        read_at_port (values_of core) task.0 (get_or core.state.ended task.0 0) core.plan.graph.edges kept.plan.graph.order e (edge_at core.plan.graph e) (edge_stands e inside) to
        ∙ ap (λ (o : Option Value). Some (unwrap_or o (values.Int (pos 0)))) is

    fits_next : (action : Action) → next_action (constants core) core.state task.0 ≡ action → IsActionOf core.plan task.0 (get_or core.state.ended task.0 0) action
    fits_next = fits_action core kept.plan kept.sound laws task keeps

    sound_after : (action : Action) → next_action (constants core) core.state task.0 ≡ action → IsSound (constants core) (after_action core.state task.0 action)
    sound_after action is =
        subst (λ (a : Action). IsSound (constants core) (after_action core.state task.0 a)) is
        (gated_event_keeps_sound (constants core) laws.facts core.state kept.sound (events.Act task)
        (legal_event_is_gated (constants core) laws.facts core.state kept.sound (events.Act task) keeps))

    const_value : (port : ℕ) (value : Value) → IsReadConst core task (get_or core.state.ended task.0 0) port value →
        slice_get (reads_of_job core.plan.graph (values_of core) task.0 (get_or core.state.ended task.0 0)) port ≡ Some value
    const_value port value reads =
        ap (slice_get (reads_of_job core.plan.graph (values_of core) task.0 (get_or core.state.ended task.0 0))) (sym reads.stands)
        ∙ value_at_port reads.edge reads.inside reads.consumer value
        (ap (value_from (values_of core) (edge_at core.plan.graph reads.edge).from) reads.operand)

    module _ (port : ℕ) (edge : EdgeNo) (m : ℕ) (slot : SlotNo) (is : next_action (constants core) core.state task.0 ≡ actions.Read port edge m slot) where
      read_fits : IsActionOf core.plan task.0 (get_or core.state.ended task.0 0) (actions.Read port edge m slot)
      read_fits = fits_next (actions.Read port edge m slot) is

      abbrev reads_there : ReadsAt (constants core) task.0 (get_or core.state.ended task.0 0) (get_or core.state.places task.0 0) m slot.0
      reads_there = record { job = is_job; action = (port, edge, is) }

      found : get_or core.state.tags slot.0 0 ≡ m + 1
      found = finds core kept.plan kept.sound laws task keeps port edge m slot is

      pub read_inside : slot.0 < length halves
      read_inside =
          let l = kept.cells.slots in
          let c = laws.facts.read_cell task.0 (get_or core.state.ended task.0 0) (get_or core.state.places task.0 0) m slot.0 reads_there in
          omega (arith, l, c)

      -- the half holds what the job is to read
      half_is : (value : Value) → slice_get halves slot.0 ≡ Some value →
          value_on (values_of core) (edge_at core.plan.graph edge.0) (get_or core.state.ended task.0 0) ≡ Some value
      half_is value there =
          let from = laws.facts.provided task.0 (get_or core.state.ended task.0 0) (get_or core.state.places task.0 0) m slot.0 reads_there in
          let writes : WritesAt (constants core) from.0 from.1 from.2 m slot.0 = from.3.writes in
          let one : edge ≡ writes.action.0 =
          laws.facts.edge task.0 (get_or core.state.ended task.0 0) (get_or core.state.places task.0 0) m from.0 from.1 from.2 m slot.0 reads_there writes in
          let stored = kept.cells.stored from.0 from.1 from.2 m slot.0 writes found in
          ap (value_from (values_of core) (edge_at core.plan.graph edge.0).from) read_fits.3
          ∙ ap (λ (e : EdgeNo). value_from (values_of core) (edge_at core.plan.graph e.0).from (operands.From m)) one
          ∙ sym stored ∙ there

      read_value : (value : Value) → slice_get halves slot.0 ≡ Some value →
          slice_get (reads_of_job core.plan.graph (values_of core) task.0 (get_or core.state.ended task.0 0)) port ≡ Some value
      read_value value there =
          ap (slice_get (reads_of_job core.plan.graph (values_of core) task.0 (get_or core.state.ended task.0 0))) (sym read_fits.2)
          ∙ value_at_port edge.0 read_fits.0 read_fits.1 value (half_is value there)

      pub whole_sight : (half : ℕ) → slot.0 % 2 ≡ suc half → (value : Value) → slice_get halves slot.0 ≡ Some value →
          IsRead core task (get_or core.state.ended task.0 0) port edge m (cell_no slot) value
      whole_sight half odd value there = whole_read core kept.plan kept.sound laws task keeps port edge m slot is half odd value (half_is value there)

    -- reading leaves the halves
    moved_halves : AreHalves core.plan (constants core) (values_of core) (moved core.state task.0) halves
    moved_halves = record { slots = kept.cells.slots; stored = kept.cells.stored }

    moved_place : get_or (set core.state.places task.0 (get_or core.state.places task.0 0 + 1)) task.0 0 ≡ get_or core.state.places task.0 0 + 1
    moved_place = get_or-set_at core.state.places task.0 task.0 (get_or core.state.places task.0 0 + 1) 0 refl in_places

    -- the workers after an action, where that of the task is another
    workers_after : (ended places tags : List ℕ) → ((j : ℕ) → j ≢ task.0 → get_or ended j 0 ≡ get_or core.state.ended j 0) →
        ((j : ℕ) → j ≢ task.0 → get_or places j 0 ≡ get_or core.state.places j 0) → (next : Worker) →
        IsWorker core.plan core.bodies core.horizon.until (values_of core) task.0 (get_or ended task.0 0) (get_or places task.0 0) next →
        AreWorkers core.plan core.bodies core.horizon.until (values_of core) (record { now = core.state.now; ended = ended; places = places; tags = tags }) (set workers task.0 next)
    workers_after ended places tags same_ended same_places next is = record {
      tasks = length-set workers task.0 next ∙ kept.tasks.tasks;
      each = λ j w at. elim (cases_eq j task.0) [
        | inl same ↦
            (let l = kept.tasks.tasks in let t = has.task in
            let here : Some next ≡ Some w = sym (slice_get_set_same workers task.0 next (omega (arith, l, t))) ∙ ap (slice_get (set workers task.0 next)) (sym same) ∙ at in
            let its : next ≡ w = cc in
            subst (λ (k : ℕ). IsWorker core.plan core.bodies core.horizon.until (values_of core) k (get_or ended k 0) (get_or places k 0) w) (sym same)
            (subst (λ (x : Worker). IsWorker core.plan core.bodies core.horizon.until (values_of core) task.0 (get_or ended task.0 0) (get_or places task.0 0) x) its is))
        | inr other ↦
            (subst (λ (k : ℕ). IsWorker core.plan core.bodies core.horizon.until (values_of core) j k (get_or places j 0) w) (sym (same_ended j other))
            (subst (λ (k : ℕ). IsWorker core.plan core.bodies core.horizon.until (values_of core) j (get_or core.state.ended j 0) k w) (sym (same_places j other))
            (kept.tasks.each j w (sym (slice_get_set_other workers task.0 j next other) ∙ at))))
      ];
    }

    -- the same where the next action of the task stands one further
    workers_moved : (tags : List ℕ) (next : Worker) →
        IsWorker core.plan core.bodies core.horizon.until (values_of core) task.0 (get_or core.state.ended task.0 0) (get_or core.state.places task.0 0 + 1) next →
        AreWorkers core.plan core.bodies core.horizon.until (values_of core)
        (record { now = core.state.now; ended = core.state.ended; places = set core.state.places task.0 (get_or core.state.places task.0 0 + 1); tags = tags }) (set workers task.0 next)
    workers_moved tags next is =
        workers_after core.state.ended (set core.state.places task.0 (get_or core.state.places task.0 0 + 1)) tags (λ j other. refl)
        (λ j other. get_or-set_other core.state.places task.0 j (get_or core.state.places task.0 0 + 1) 0 other) next
        (subst (λ (k : ℕ). IsWorker core.plan core.bodies core.horizon.until (values_of core) task.0 (get_or core.state.ended task.0 0) k next) (sym moved_place) is)

    -- an action that takes an operand
    module _ (action : Action) (is : next_action (constants core) core.state task.0 ≡ action) (reads : Reads action) (whole : completes action ≡ 1)
        (port : ℕ) (at : IsAtPort port action) (value : Value)
        (its : slice_get (reads_of_job core.plan.graph (values_of core) task.0 (get_or core.state.ended task.0 0)) port ≡ Some value) where
      pub can_take : CanTake core.rows core.bodies workers task.0 (get_or core.state.ended task.0 0) port value
      can_take =
          let may = may_take core.plan core.horizon core.bodies core.rows laws.work task.0 (get_or core.state.ended task.0 0) by_number (get_or core.state.places task.0 0)
          worker.0 (fit worker.0 worker.1) action is reads whole port at value its in
          record { worker = worker.0; its = worker.1; inside = may.0; ready = may.1 }

      pub taken : (workers' : List Worker) → Takes core.rows core.bodies task.0 (get_or core.state.ended task.0 0) port value workers workers' →
          AreWorkers core.plan core.bodies core.horizon.until (values_of core) (moved core.state task.0) workers'
      taken workers' takes =
          subst (λ (ws : List Worker). AreWorkers core.plan core.bodies core.horizon.until (values_of core) (moved core.state task.0) ws) (sym takes.workers)
          (workers_moved core.state.tags takes.next
          (has_taken core.plan core.horizon core.bodies core.rows laws.work task.0 (get_or core.state.ended task.0 0) by_number (get_or core.state.places task.0 0)
          takes.worker (fit takes.worker takes.its) action is reads whole port at value its takes.next takes.takes))

    -- an action that does not read
    can_begin : (action : Action) → next_action (constants core) core.state task.0 ≡ action → (Reads action → ⊥) →
        CanBegin core.rows core.bodies workers task.0 (get_or core.state.ended task.0 0)
    can_begin action is never = record {
      worker = worker.0;
      its = worker.1;
      ready = may_begin core.plan core.horizon core.bodies core.rows laws.work task.0 (get_or core.state.ended task.0 0) by_number (get_or core.state.places task.0 0)
          worker.0 (fit worker.0 worker.1) action is never;
    }

    module _ (edge : EdgeNo) (m : ℕ) (slot : SlotNo) (is : next_action (constants core) core.state task.0 ≡ actions.Write edge m slot) where
      write_fits : IsActionOf core.plan task.0 (get_or core.state.ended task.0 0) (actions.Write edge m slot)
      write_fits = fits_next (actions.Write edge m slot) is

      abbrev writes_there : WritesAt (constants core) task.0 (get_or core.state.ended task.0 0) (get_or core.state.places task.0 0) m slot.0
      writes_there = record { job = is_job; action = (edge, is) }

      pub write_inside : slot.0 < length halves
      write_inside =
          let l = kept.cells.slots in
          let c = laws.facts.write_cell task.0 (get_or core.state.ended task.0 0) (get_or core.state.places task.0 0) m slot.0 writes_there in
          omega (arith, l, c)

      no_write_reads : Reads (actions.Write edge m slot) → ⊥
      no_write_reads reads = reads

      -- the edge comes from an output of the task
      abbrev IsPort : Producer → Type 0
      IsPort from = (source : TaskNo) × (out : ℕ) × (from ≡ producers.Port source out)

      its_port : (from : Producer) → ComesFrom from task.0 → IsPort from
      its_port (producers.Port source out) comes = (source, out, refl)
      its_port (producers.Constant value) comes = absurd comes

      -- that output is there once the body has run, and is the value of the instance on the edge
      module _ (source : TaskNo) (out : ℕ) (from : (edge_at core.plan.graph edge.0).from ≡ producers.Port source out) (w : Worker) (its : slice_get workers task.0 ≡ Some w)
          (next : Worker) (has : HasBegun core.rows core.bodies (get_or core.state.ended task.0 0) w next) where
        same_out : (port_of_edge core.plan core.horizon core.bodies core.rows laws.work task.0 (get_or core.state.ended task.0 0) by_number (get_or core.state.places task.0 0)
            w (fit w its) edge m slot is next has).1 ≡ out
        same_out =
            let served = port_of_edge core.plan core.horizon core.bodies core.rows laws.work task.0 (get_or core.state.ended task.0 0) by_number (get_or core.state.places task.0 0)
            w (fit w its) edge m slot is next has in
            let e : producers.Port served.0 served.1 ≡ producers.Port source out = sym served.2 ∙ from in
            cc

        out_there : out < length next.outputs.items
        out_there = subst (λ (k : ℕ). k < length next.outputs.items) same_out
            (output_there core.plan core.horizon core.bodies core.rows laws.work task.0 (get_or core.state.ended task.0 0) by_number (get_or core.state.places task.0 0)
            w (fit w its) edge m slot is next has)

        out_is : (value : Value) → slice_get next.outputs.items out ≡ Some value → value_from (values_of core) (edge_at core.plan.graph edge.0).from (operands.From m) ≡ Some value
        out_is value at =
            (output_is core.plan core.horizon core.bodies core.rows laws.work task.0 (get_or core.state.ended task.0 0) by_number (get_or core.state.places task.0 0)
            w (fit w its) edge m slot is next has value (ap (slice_get next.outputs.items) same_out ∙ at)).1

      abbrev MayGive : ℕ → Type 0
      MayGive out = CanGive core.rows core.bodies workers task.0 (get_or core.state.ended task.0 0) out

      pub can_give : (source : TaskNo) × (out : ℕ) × ((edge_at core.plan.graph edge.0).from ≡ producers.Port source out) × MayGive out
      can_give =
          let port = its_port (edge_at core.plan.graph edge.0).from write_fits.1 in
          (port.0, port.1, port.2, gives port.0 port.1 port.2 (can_begin (actions.Write edge m slot) is no_write_reads))
        where
          gives : (source : TaskNo) (out : ℕ) → (edge_at core.plan.graph edge.0).from ≡ producers.Port source out →
              CanBegin core.rows core.bodies workers task.0 (get_or core.state.ended task.0 0) → MayGive out
          gives source out from begins = record { begins = begins; inside = out_there source out from begins.worker begins.its }

      -- who writes to this half is this job, on this edge
      one_writer : (j k written l : ℕ) (writes : WritesAt (constants core) j k written l slot.0) → l ≡ m → writes.action.0 ≡ edge
      one_writer j k written l writes same =
          let who = laws.facts.writer j k written l task.0 (get_or core.state.ended task.0 0) (get_or core.state.places task.0 0) m slot.0 writes writes_there in
          let its_own = laws.facts.own j k written l slot.0 writes in
          let mine = write_fits.2 in
          let job : k ≡ get_or core.state.ended task.0 0 = omega (arith, its_own, mine, same) in
          let there : action_at (constants core) task.0 (get_or core.state.ended task.0 0) written ≡ actions.Write writes.action.0 l (record { 0 = slot.0 }) =
          ap (λ (x : ℕ). action_at (constants core) x (get_or core.state.ended task.0 0) written) (sym who)
          ∙ ap (λ (x : ℕ). action_at (constants core) j x written) (sym job) ∙ writes.action.1 in
          let at = laws.facts.once task.0 (get_or core.state.ended task.0 0) written l (get_or core.state.places task.0 0) m slot.0
          (record { job = is_job; action = (writes.action.0, there) }) writes_there in
          let both : actions.Write writes.action.0 l (record { 0 = slot.0 }) ≡ actions.Write edge m slot =
          sym there ∙ ap (λ (x : ℕ). action_at (constants core) task.0 (get_or core.state.ended task.0 0) x) at ∙ is in
          cc

      written_halves : (value : Value) → value_from (values_of core) (edge_at core.plan.graph edge.0).from (operands.From m) ≡ Some value →
          AreHalves core.plan (constants core) (values_of core) (after_action core.state task.0 (actions.Write edge m slot)) (set halves slot.0 value)
      written_halves value its_value = record {
        slots = length-set halves slot.0 value ∙ kept.cells.slots;
        stored = stored;
      }
        where
          in_tags : slot.0 < length core.state.tags
          in_tags =
              let l = kept.sound.tagged.tags in
              let c = laws.facts.write_cell task.0 (get_or core.state.ended task.0 0) (get_or core.state.places task.0 0) m slot.0 writes_there in
              omega (arith, l, c)

          stored : (j k written l h : ℕ) (writes : WritesAt (constants core) j k written l h) →
              get_or (set core.state.tags slot.0 (m + 1)) h 0 ≡ l + 1 →
              slice_get (set halves slot.0 value) h ≡ value_from (values_of core) (edge_at core.plan.graph writes.action.0.0).from (operands.From l)
          stored j k written l h writes holds =
              elim (cases_eq h slot.0) [
                | inl here ↦
                    (let tag = get_or-set_at core.state.tags slot.0 h (m + 1) 0 here in_tags in
                    let same : l ≡ m = omega (arith, tag, holds) in
                    let moved : WritesAt (constants core) j k written l slot.0 =
                    record { job = writes.job; action = (writes.action.0, writes.action.1 ∙ ap (λ (x : ℕ). actions.Write writes.action.0 l (record { 0 = x })) here) } in
                    let one : writes.action.0 ≡ edge = one_writer j k written l moved same in
                    ap (slice_get (set halves slot.0 value)) here ∙ slice_get_set_same halves slot.0 value write_inside
                    ∙ sym its_value ∙ ap (λ (e : EdgeNo). value_from (values_of core) (edge_at core.plan.graph e.0).from (operands.From m)) (sym one)
                    ∙ ap (λ (x : ℕ). value_from (values_of core) (edge_at core.plan.graph writes.action.0.0).from (operands.From x)) (sym same))
                | inr other ↦
                    (slice_get_set_other halves slot.0 h value other
                    ∙ kept.cells.stored j k written l h writes (sym (get_or-set_other core.state.tags slot.0 h (m + 1) 0 other) ∙ holds))
              ]

      pub wrote : (halves' : List Value) (workers' : List Worker) (source : TaskNo) (out : ℕ) → (edge_at core.plan.graph edge.0).from ≡ producers.Port source out →
          Gives core.rows core.bodies task.0 (get_or core.state.ended task.0 0) out slot.0 halves halves' workers workers' →
          AreHalves core.plan (constants core) (values_of core) (after_action core.state task.0 (actions.Write edge m slot)) halves'
          × AreWorkers core.plan core.bodies core.horizon.until (values_of core) (after_action core.state task.0 (actions.Write edge m slot)) workers'
      wrote halves' workers' source out from gives = (
        subst (λ (hs : List Value). AreHalves core.plan (constants core) (values_of core) (after_action core.state task.0 (actions.Write edge m slot)) hs) (sym gives.stored)
            (written_halves gives.value (out_is source out from gives.worker gives.its gives.next gives.begins gives.value gives.given)),
        subst (λ (ws : List Worker). AreWorkers core.plan core.bodies core.horizon.until (values_of core) (after_action core.state task.0 (actions.Write edge m slot)) ws) (sym gives.workers)
            (workers_moved (set core.state.tags slot.0 (m + 1)) gives.next
            (has_written core.plan core.horizon core.bodies core.rows laws.work task.0 (get_or core.state.ended task.0 0) by_number (get_or core.state.places task.0 0)
            gives.worker (fit gives.worker gives.its) (actions.Write edge m slot) is no_write_reads refl gives.next gives.begins)),
      )

    module _ (is : next_action (constants core) core.state task.0 ≡ actions.End) where
      no_end_reads : Reads actions.End → ⊥
      no_end_reads reads = reads

      pub ended_workers : (workers' : List Worker) → Ends core.rows core.bodies task.0 (get_or core.state.ended task.0 0) workers workers' →
          AreWorkers core.plan core.bodies core.horizon.until (values_of core) (after_action core.state task.0 actions.End) workers'
      ended_workers workers' ends =
          let after = has_ended core.plan core.horizon core.bodies core.rows laws.work task.0 (get_or core.state.ended task.0 0) by_number (get_or core.state.places task.0 0)
          ends.worker (fit ends.worker ends.its) actions.End is no_end_reads ends.begun ends.next ends.begins ends.ends in
          subst (λ (ws : List Worker). AreWorkers core.plan core.bodies core.horizon.until (values_of core) (after_action core.state task.0 actions.End) ws) (sym ends.workers)
          (workers_after (set core.state.ended task.0 (get_or core.state.ended task.0 0 + 1)) (set core.state.places task.0 0) core.state.tags
          (λ j other. get_or-set_other core.state.ended task.0 j (get_or core.state.ended task.0 0 + 1) 0 other)
          (λ j other. get_or-set_other core.state.places task.0 j 0 0 other) ends.next
          (subst (λ (k : ℕ). IsWorker core.plan core.bodies core.horizon.until (values_of core) task.0 k (get_or (set core.state.places task.0 0) task.0 0) ends.next)
          (sym (get_or-set_at core.state.ended task.0 task.0 (get_or core.state.ended task.0 0 + 1) 0 refl in_ended))
          (subst (λ (k : ℕ). IsWorker core.plan core.bodies core.horizon.until (values_of core) task.0 (get_or core.state.ended task.0 0 + 1) k ends.next)
          (sym (get_or-set_at core.state.places task.0 task.0 0 0 refl in_places)) after)))

    -- what the machine keeps after an act
    after_act : (action : Action) → next_action (constants core) core.state task.0 ≡ action → (halves' : List Value) (workers' : List Worker) →
        AreHalves core.plan (constants core) (values_of core) (after_action core.state task.0 action) halves' →
        AreWorkers core.plan core.bodies core.horizon.until (values_of core) (after_action core.state task.0 action) workers' →
        IsKept (record core { state = after_action core.state task.0 action }) halves' workers'
    after_act action is halves' workers' cells tasks = record {
      plan = kept.plan;
      horizon = kept.horizon;
      facts = kept.facts;
      bodies = kept.bodies;
      rows = kept.rows;
      sound = sound_after action is;
      cells = cells;
      tasks = tasks;
    }

    same_halves : (halves' : List Value) → halves' ≡ halves → AreHalves core.plan (constants core) (values_of core) (moved core.state task.0) halves'
    same_halves halves' same = subst (λ (hs : List Value). AreHalves core.plan (constants core) (values_of core) (moved core.state task.0) hs) (sym same) moved_halves

    -- a read of a low half
    low_read : (port : ℕ) (edge : EdgeNo) (m : ℕ) (slot : SlotNo) → next_action (constants core) core.state task.0 ≡ actions.Read port edge m slot → slot.0 % 2 ≡ 0 →
        AreWorkers core.plan core.bodies core.horizon.until (values_of core) (moved core.state task.0) workers
    low_read port edge m slot is even =
        let next = worker_reads_low core.plan core.horizon core.bodies core.rows laws.work task.0 (get_or core.state.ended task.0 0) by_number (get_or core.state.places task.0 0)
        worker.0 (fit worker.0 worker.1) port edge m slot is even in
        record {
          tasks = kept.tasks.tasks;
          each = λ j w at. elim (cases_eq j task.0) [
            | inl same ↦
                (let here : Some worker.0 ≡ Some w = sym worker.1 ∙ ap (slice_get workers) (sym same) ∙ at in
                let its : worker.0 ≡ w = cc in
                subst (λ (k : ℕ). IsWorker core.plan core.bodies core.horizon.until (values_of core) k (get_or core.state.ended k 0)
                (get_or (set core.state.places task.0 (get_or core.state.places task.0 0 + 1)) k 0) w) (sym same)
                (subst (λ (k : ℕ). IsWorker core.plan core.bodies core.horizon.until (values_of core) task.0 (get_or core.state.ended task.0 0) k w) (sym moved_place)
                (subst (λ (x : Worker). IsWorker core.plan core.bodies core.horizon.until (values_of core) task.0 (get_or core.state.ended task.0 0)
                (get_or core.state.places task.0 0 + 1) x) its next)))
            | inr other ↦
                (subst (λ (k : ℕ). IsWorker core.plan core.bodies core.horizon.until (values_of core) j (get_or core.state.ended j 0) k w)
                (sym (get_or-set_other core.state.places task.0 j (get_or core.state.places task.0 0 + 1) 0 other))
                (kept.tasks.each j w at))
          ];
        }

    abbrev Kept : Action → List Value → List Worker → Seen → Type 0
    Kept action halves' workers' seen =
        IsKept (record core { state = after_action core.state task.0 action }) halves' workers' × IsSightOf core task (get_or core.state.ended task.0 0) action seen

    read_served : (port : ℕ) (edge : EdgeNo) (m : ℕ) (slot : SlotNo) → next_action (constants core) core.state task.0 ≡ actions.Read port edge m slot →
        (halves' : List Value) (workers' : List Worker) (seen : Seen) → halves' ≡ halves → (half : ℕ) → slot.0 % 2 ≡ half →
        DoesRead core.rows core.bodies halves workers workers' task (get_or core.state.ended task.0 0) port (actions.Read port edge m slot) half seen →
        IsKept (record core { state = moved core.state task.0 }) halves' workers' × IsSightOfRead core task (get_or core.state.ended task.0 0) port edge m (cell_no slot) half seen
    read_served port edge m slot is halves' workers' seen same zero even does = (
      after_act (actions.Read port edge m slot) is halves' workers' (same_halves halves' same)
          (subst (λ (ws : List Worker). AreWorkers core.plan core.bodies core.horizon.until (values_of core) (moved core.state task.0) ws) (sym does.0) (low_read port edge m slot is even)),
      does.1,
    )
    read_served port edge m slot is halves' workers' seen same (suc half) odd does = (
      after_act (actions.Read port edge m slot) is halves' workers' (same_halves halves' same)
          (taken (actions.Read port edge m slot) is tt (high_completes half odd) port refl does.0
          (read_value port edge m slot is does.0 does.1) workers' does.2),
      (does.0, does.3, whole_sight port edge m slot is half odd does.0 does.1),
    )
      where
        high_completes : (half : ℕ) → slot.0 % 2 ≡ suc half → slot.0 % 2 ≡ 1
        high_completes half odd = omega (arith, odd)

    act_kept : (action : Action) → next_action (constants core) core.state task.0 ≡ action → (halves' : List Value) (workers' : List Worker) (seen : Seen) →
        Serves core.plan.graph core.rows core.bodies task (get_or core.state.ended task.0 0) halves halves' workers workers' action seen →
        IsKept (record core { state = after_action core.state task.0 action }) halves' workers' × IsSightOf core task (get_or core.state.ended task.0 0) action seen
    act_kept (actions.ReadConst port value) is halves' workers' seen serves =
        let reads = constant_on core kept.plan kept.sound laws task keeps port value is in (
          after_act (actions.ReadConst port value) is halves' workers' (same_halves halves' serves.0)
              (taken (actions.ReadConst port value) is tt refl port refl value (const_value port value reads) workers' serves.1),
          (serves.2, reads),
        )
    act_kept (actions.Read port edge m slot) is halves' workers' seen serves =
        let done = read_served port edge m slot is halves' workers' seen serves.0 (slot.0 % 2) refl serves.1 in
        (done.0, (found port edge m slot is, done.1))
    act_kept (actions.Write edge m slot) is halves' workers' seen serves =
        let done = wrote edge m slot is halves' workers' serves.0.0 serves.0.1 serves.0.2 serves.0.3 in (
          after_act (actions.Write edge m slot) is halves' workers' done.0 done.1,
          (
            λ j k place l reads holds.
                write_finds_half_free (constants core) laws.facts core.state kept.sound task.0 edge m slot.0 keeps.0 keeps.1 is j k place l reads holds,
            serves.1,
          ),
        )
    act_kept actions.End is halves' workers' seen serves = (
      after_act actions.End is halves' workers'
          (record { slots = ap length serves.0 ∙ kept.cells.slots; stored = λ j k written l h writes holds. ap (λ (hs : List Value). slice_get hs h) serves.0 ∙ kept.cells.stored j k written l h writes holds })
          (ended_workers is workers' serves.1),
      serves.2,
    )

    can_read : (port : ℕ) (edge : EdgeNo) (m : ℕ) (slot : SlotNo) → next_action (constants core) core.state task.0 ≡ actions.Read port edge m slot →
        (half : ℕ) → slot.0 % 2 ≡ half → CanRead core.rows core.bodies halves workers task.0 (get_or core.state.ended task.0 0) port slot.0 half
    can_read port edge m slot is zero even = tt
    can_read port edge m slot is (suc half) odd =
        let there = value_there halves slot.0 (read_inside port edge m slot is) in (
          there.0,
          there.1,
          can_take (actions.Read port edge m slot) is tt (omega (arith, odd)) port refl there.0
              (read_value port edge m slot is there.0 there.1),
        )

    can_act : (action : Action) → next_action (constants core) core.state task.0 ≡ action →
        CanServe core.plan.graph core.rows core.bodies halves workers task.0 (get_or core.state.ended task.0 0) action
    can_act (actions.ReadConst port value) is =
        let reads = constant_on core kept.plan kept.sound laws task keeps port value is in
        can_take (actions.ReadConst port value) is tt refl port refl value (const_value port value reads)
    can_act (actions.Read port edge m slot) is = (read_inside port edge m slot is, can_read port edge m slot is (slot.0 % 2) refl)
    can_act (actions.Write edge m slot) is = (
      (write_fits edge m slot is).0,
      write_inside edge m slot is,
      can_give edge m slot is,
    )
    can_act actions.End is = can_begin actions.End is (λ reads. reads)

-- what is seen of a core with this track
abbrev pub core_on : List CheckedBody → Rows → TrackView → CoreView
core_on bodies rows track = record { plan = track.plan; placement = track.placement; bodies = bodies; rows = rows; horizon = track.horizon; state = track.state }

-- an act, as the track and the store tell it
module _ (core : CoreView) (halves : List Value) (workers : List Worker) (kept : IsKept core halves workers) (laws : HasCoreLaws core) (task : TaskNo)
    (keeps : KeepsLegal (constants core) core.state (events.Act task)) (plan : PlanView) (same : plan ≡ core.plan) (job : ℕ) (job_is : job ≡ first_unfinished core.state task.0)
    (action : Action) (action_is : action ≡ next_action (constants core) core.state task.0) where
  pub can_serve : CanServe plan.graph core.rows core.bodies halves workers task.0 job action
  can_serve =
      subst (λ (p : PlanView). CanServe p.graph core.rows core.bodies halves workers task.0 job action) (sym same)
      (subst (λ (n : ℕ). CanServe core.plan.graph core.rows core.bodies halves workers task.0 n action) (sym job_is)
      (can_act core halves workers kept laws task keeps action (sym action_is)))

  pub act_served : (halves' : List Value) (workers' : List Worker) (seen : Seen) → Serves plan.graph core.rows core.bodies task job halves halves' workers workers' action seen →
      IsKept (record core { state = after_event (constants core) core.state (events.Act task) }) halves' workers'
      × IsSightOf core task (first_unfinished core.state task.0) (next_action (constants core) core.state task.0) seen
  act_served halves' workers' seen serves =
      subst (λ (a : Action). IsKept (record core { state = after_action core.state task.0 a }) halves' workers' × IsSightOf core task (first_unfinished core.state task.0) a seen) action_is
      (act_kept core halves workers kept laws task keeps action (sym action_is) halves' workers' seen
      (subst (λ (p : PlanView). Serves p.graph core.rows core.bodies task (first_unfinished core.state task.0) halves halves' workers workers' action seen) same
      (subst (λ (n : ℕ). Serves plan.graph core.rows core.bodies task n halves halves' workers workers' action seen) job_is serves)))
