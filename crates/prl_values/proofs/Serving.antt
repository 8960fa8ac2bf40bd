-- What the actions of a job ask of its worker, and what they leave.
use Rattle.prl_base.proofs.Standard.{◌≡◌, ◌+◌, ◌<◌, ℕ, true, false, List, length, get_or, set, Some, refl, sym, ◌∙◌, ap, subst, arith, slice_get, slice_get-get_or, slice_get_within}
use Rattle.prl_base.specs.declared.numbers.EdgeNo.{EdgeNo}
use Rattle.prl_base.specs.declared.numbers.TaskNo.{TaskNo}
use Rattle.prl_base.specs.declared.values.Value.{Value}
use Rattle.prl_body.specs.Bodies.{body_named, output_types}
use Rattle.prl_body.specs.declared.bodies.CheckedBody.{CheckedBody}
use Rattle.prl_flow.specs.Rows.{Rows}
use Rattle.prl_plan.specs.Vocabulary.{IsJob, IsEdge, IsSource, is_actuator, is_sensor, constants_of, task_at, PlanView, IsActionOf, IsAtPort, actions_of, completes, edge_at, no_edge, operands_before}
use Rattle.prl_plan.specs.Vocabulary.{ComesFrom}
use Rattle.prl_plan.specs.declared.events.Action.{Action}
use Rattle.prl_plan.specs.declared.events.SlotNo.{SlotNo}
use Rattle.prl_plan.specs.declared.graphs.Producer.{Producer}
use Rattle.prl_plan.specs.declared.horizons.Horizon.{Horizon}
use Rattle.prl_plan.specs.declared.events.Action.TheVariants as actions
use Rattle.prl_plan.specs.declared.graphs.Kind.TheVariants as kinds
use Rattle.prl_plan.specs.declared.graphs.Producer.TheVariants as producers
use Rattle.prl_plan.specs.declared.walks.Operand.TheVariants as operands
use Rattle.prl_values.specs.Vocabulary.{HasOutput, port_types, job_values, reads_of_job, value_from}
use Rattle.prl_values.specs.Vocabulary.{Work, Worker, HasBegun, HasEnded, HasGiven, HasLaws, HasTaken, HaveWorkLaws, IsReady, IsWork, IsWorker, outs_of, outs_with}
use Rattle.prl_values.specs.declared.workers.Work.TheVariants as works
use Rattle.prl_values.proofs.Operands.{Reads}
use Rattle.prl_values.proofs.PortReads.{edge_has_port}
use Rattle.prl_values.proofs.Working.{HasBody, body_run, instance_given, job_ended, low_passed, operand_taken, port_there, ready_to_begin, ready_to_take}

module _ (plan : PlanView) (horizon : Horizon) (bodies : List CheckedBody) (rows : Rows) (laws : HaveWorkLaws plan horizon bodies rows)
    (i n : ℕ) (job : IsJob (constants_of plan horizon) i n) (p : ℕ) (worker : Worker)
    (fit : IsWorker plan bodies horizon.until (job_values plan.graph bodies rows horizon.until) i n p worker) where
  abbrev pub Fits : ℕ → ℕ → Worker → Type 0
  Fits n p next = IsWorker plan bodies horizon.until (job_values plan.graph bodies rows horizon.until) i n p next

  job_laws : HasLaws plan bodies rows horizon.until (job_values plan.graph bodies rows horizon.until) i n
  job_laws = laws.jobs i n job

  edge_stands : (e : ℕ) → e < length plan.graph.edges → slice_get plan.graph.edges e ≡ Some (edge_at plan.graph e)
  edge_stands e inside = slice_get-get_or plan.graph.edges e no_edge inside

  edge_fact : (e : ℕ) → e < length plan.graph.edges → IsEdge plan.graph (edge_at plan.graph e)
  edge_fact e inside = laws.whole.graph.edges e (edge_at plan.graph e) (edge_stands e inside)

  -- an edge to a task is to no sensor task
  no_sensor : (e : ℕ) → e < length plan.graph.edges → (edge_at plan.graph e).to.0 ≡ i → (k : ℕ) → (task_at plan.graph i).kind ≡ kinds.Sensor k → ⊥
  no_sensor e inside to k kind =
      absurd (let f : false ≡ true = sym (edge_fact e inside).receives
      ∙ ap (λ (j : ℕ). is_sensor (task_at plan.graph j).kind) to ∙ ap is_sensor kind in cc)

  -- an actuator task has a port
  has_port : (k : ℕ) → (task_at plan.graph i).kind ≡ kinds.Actuator k → 0 < length (port_types plan.graph.edges i)
  has_port k kind =
      let one = (laws.whole.graph.actuators i job.task (ap is_actuator kind)).one in
      omega (arith, edge_has_port (job_values plan.graph bodies rows horizon.until) i 0 plan.graph.edges laws.whole.graph.order one.0 one.1 one.2 one.3)

  -- a low half is read
  pub low_read : (port : ℕ) (e : EdgeNo) (m : ℕ) (slot : SlotNo) → get_or (actions_of plan i n) p actions.End ≡ actions.Read port e m slot → completes (actions.Read port e m slot) ≡ 0 →
      Fits n (p + 1) worker
  low_read port e m slot is none =
      low_passed plan bodies rows horizon.until (job_values plan.graph bodies rows horizon.until) i n job_laws p worker fit (subst Reads (sym is) tt) (ap completes is ∙ none)

  -- a whole operand is read
  module _ (action : Action) (is : get_or (actions_of plan i n) p actions.End ≡ action) (reads : Reads action) (whole : completes action ≡ 1)
      (port : ℕ) (at : IsAtPort port action) (value : Value) (its : slice_get (reads_of_job plan.graph (job_values plan.graph bodies rows horizon.until) i n) port ≡ Some value) where
    place_port : operands_before (actions_of plan i n) p ≡ port
    place_port = laws.ports i n p port (subst (IsAtPort port) (sym is) at)

    place_reads : Reads (get_or (actions_of plan i n) p actions.End)
    place_reads = subst Reads (sym is) reads

    place_whole : completes (get_or (actions_of plan i n) p actions.End) ≡ 1
    place_whole = ap completes is ∙ whole

    abbrev IsConsumer : Action → Type 0
    IsConsumer action = (e : ℕ) × (e < length plan.graph.edges) × ((edge_at plan.graph e).to.0 ≡ i)

    consumer : (x : Action) → Reads x → IsActionOf plan i n x → IsConsumer x
    consumer (actions.ReadConst q v) r of = (of.0, of.1, of.2)
    consumer (actions.Read q e m slot) r of = (e.0, of.0, of.1)
    consumer (actions.Write e m slot) r of = absurd r
    consumer actions.End r of = absurd r

    never_sensor : (k : ℕ) → (task_at plan.graph i).kind ≡ kinds.Sensor k → ⊥
    never_sensor = let to = consumer action reads (subst (IsActionOf plan i n) is (laws.each i n p)) in no_sensor to.0 to.1 to.2

    pub may_take : (port < length worker.operands.items) × (port + 1 ≡ length worker.operands.items → IsReady rows bodies n (set worker.operands.items port value) worker)
    may_take = (
      port_there plan bodies rows horizon.until (job_values plan.graph bodies rows horizon.until) i n job_laws p worker fit place_reads place_whole port place_port value its never_sensor,
      ready_to_take plan bodies rows horizon.until (job_values plan.graph bodies rows horizon.until) i n job_laws p worker fit place_reads place_whole port place_port value its never_sensor,
    )

    pub has_taken : (next : Worker) → HasTaken rows bodies port n value worker next → Fits n (p + 1) next
    has_taken = operand_taken plan bodies rows horizon.until (job_values plan.graph bodies rows horizon.until) i n job_laws p worker fit place_reads place_whole port place_port value its never_sensor

  -- what does not read: a write, or the end
  module _ (action : Action) (is : get_or (actions_of plan i n) p actions.End ≡ action) (never : Reads action → ⊥) where
    place_no : Reads (get_or (actions_of plan i n) p actions.End) → ⊥
    place_no reads = never (subst Reads is reads)

    pub may_begin : worker.ran ≡ false → IsReady rows bodies n worker.operands.items worker
    may_begin = ready_to_begin plan bodies rows horizon.until (job_values plan.graph bodies rows horizon.until) i n job_laws p worker fit place_no has_port

    abbrev Ran : Worker → Type 0
    Ran next = HasBody plan bodies rows horizon.until (job_values plan.graph bodies rows horizon.until) i n job_laws p worker fit place_no has_port next

    begun_has : (next : Worker) → HasBegun rows bodies n worker next → Ran next
    begun_has = body_run plan bodies rows horizon.until (job_values plan.graph bodies rows horizon.until) i n job_laws p worker fit place_no has_port

    pub has_written : completes action ≡ 0 → (next : Worker) → HasBegun rows bodies n worker next → Fits n (p + 1) next
    has_written none next begun =
        instance_given plan bodies rows horizon.until (job_values plan.graph bodies rows horizon.until) i n job_laws p worker fit place_no has_port next (begun_has next begun) (ap completes is ∙ none)

    pub has_ended : (begun next : Worker) → HasBegun rows bodies n worker begun → HasEnded begun next → Fits (n + 1) 0 next
    has_ended begun next begins =
        job_ended plan bodies rows horizon.until (job_values plan.graph bodies rows horizon.until) i n job_laws p worker fit place_no has_port begun next (begun_has begun begins)

  -- a half is written
  module _ (edge : EdgeNo) (m : ℕ) (slot : SlotNo) (is : get_or (actions_of plan i n) p actions.End ≡ actions.Write edge m slot) (begun : Worker)
      (begins : HasBegun rows bodies n worker begun) where
    no_write_reads : Reads (actions.Write edge m slot) → ⊥
    no_write_reads reads = reads

    ran : Ran (actions.Write edge m slot) is no_write_reads begun
    ran = begun_has (actions.Write edge m slot) is no_write_reads begun begins

    write_fits : IsActionOf plan i n (actions.Write edge m slot)
    write_fits = subst (IsActionOf plan i n) is (laws.each i n p)

    abbrev IsPort : Producer → Type 0
    IsPort from = (source : TaskNo) × (out : ℕ) × (from ≡ producers.Port source out) × (source.0 ≡ i)

    comes_from : (from : Producer) → ComesFrom from i → IsPort from
    comes_from (producers.Port source out) comes = (source, out, refl, comes)
    comes_from (producers.Constant value) comes = absurd comes

    pub port_of_edge : IsPort (edge_at plan.graph edge.0).from
    port_of_edge = comes_from (edge_at plan.graph edge.0).from write_fits.1

    source_is : IsSource plan.graph (edge_at plan.graph edge.0) (edge_fact edge.0 write_fits.0).clocks.0 (producers.Port port_of_edge.0 port_of_edge.1)
    source_is = subst (λ (f : Producer). IsSource plan.graph (edge_at plan.graph edge.0) (edge_fact edge.0 write_fits.0).clocks.0 f) port_of_edge.2
        (edge_fact edge.0 write_fits.0).clocks.2

    no_actuator : (k : ℕ) → (task_at plan.graph i).kind ≡ kinds.Actuator k → ⊥
    no_actuator k kind =
        absurd (let f : false ≡ true = sym source_is.1 ∙ ap (λ (j : ℕ). is_actuator (task_at plan.graph j).kind) port_of_edge.3 ∙ ap is_actuator kind in cc)

    out_inside : (steps : ℕ) (work : Work) → IsWork plan bodies horizon.until (job_values plan.graph bodies rows horizon.until) i steps work → port_of_edge.1 < outs_of bodies work
    out_inside steps (works.Sensor k) fits =
        omega (arith, source_is.2 (ap (λ (j : ℕ). is_sensor (task_at plan.graph j).kind) port_of_edge.3 ∙ ap is_sensor fits))
    out_inside steps (works.Node word machine) fits =
        let output : HasOutput (producers.Port port_of_edge.0 port_of_edge.1) (output_types fits.2.0) (edge_at plan.graph edge.0).ty =
        subst (λ (f : Producer). HasOutput f (output_types fits.2.0) (edge_at plan.graph edge.0).ty) port_of_edge.2
        ((job_laws.fits fits.0.0 fits.0.1 fits.2.0 fits.2.1).outputs edge.0 (edge_at plan.graph edge.0) (edge_stands edge.0 write_fits.0) write_fits.1) in
        let outs : outs_of bodies (works.Node word machine) ≡ length (output_types fits.2.0) = ap outs_with (ap (body_named bodies) fits.1 ∙ fits.2.1) in
        omega (arith, slice_get_within (output_types fits.2.0) port_of_edge.1 (edge_at plan.graph edge.0).ty output, outs)
    out_inside steps (works.Actuator column) fits = absurd (no_actuator fits.0.0 fits.0.1)

    -- the output of the edge is there
    pub output_there : port_of_edge.1 < length begun.outputs.items
    output_there = omega (arith, out_inside (n + 1) begun.work ran.work, ran.room)

    outputs_are : (outputs : List Value) (steps : ℕ) (work : Work) → IsWork plan bodies horizon.until (job_values plan.graph bodies rows horizon.until) i steps work →
        HasGiven (job_values plan.graph bodies rows horizon.until) i n outputs work → outputs ≡ job_values plan.graph bodies rows horizon.until i n
    outputs_are outputs steps (works.Sensor k) fits given = given
    outputs_are outputs steps (works.Node word machine) fits given = given
    outputs_are outputs steps (works.Actuator column) fits given = absurd (no_actuator fits.0.0 fits.0.1)

    -- what stands there is the value of the instance on the edge
    pub output_is : (value : Value) → slice_get begun.outputs.items port_of_edge.1 ≡ Some value →
        (m ≡ n) × (value_from (job_values plan.graph bodies rows horizon.until) (edge_at plan.graph edge.0).from (operands.From m) ≡ Some value)
    output_is value at = (
      write_fits.2,
      ap (λ (f : Producer). value_from (job_values plan.graph bodies rows horizon.until) f (operands.From m)) port_of_edge.2
          ∙ ap (λ (j : ℕ). slice_get (job_values plan.graph bodies rows horizon.until j m) port_of_edge.1) port_of_edge.3
          ∙ ap (λ (k : ℕ). slice_get (job_values plan.graph bodies rows horizon.until i k) port_of_edge.1) write_fits.2
          ∙ ap (λ (xs : List Value). slice_get xs port_of_edge.1) (sym (outputs_are begun.outputs.items (n + 1) begun.work ran.work ran.given)) ∙ at,
    )
