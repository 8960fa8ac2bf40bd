-- What the actions of a seat's job ask of its worker, and what they leave.
use Rattle.prl_base.proofs.Standard.{◌≡◌, ◌+◌, ◌/◌, ◌%◌, ◌<◌, ◌≤◌, ℕ, false, length, get_or, set, take, sum, Option, Some, inl, inr, refl, sym, ◌∙◌, ap, subst, arith, slice_get, pos, unwrap_or}
use Rattle.prl_base.proofs.Standard.{mod-lt, slice_get-get_or}
use Rattle.prl_base.specs.Values.{FitsValue}
use Rattle.prl_base.specs.declared.numbers.EdgeNo.{EdgeNo}
use Rattle.prl_base.specs.declared.numbers.TaskNo.{TaskNo}
use Rattle.prl_base.specs.declared.values.Value.{Value}
use Rattle.prl_base.specs.declared.values.Value.TheVariants as values
use Rattle.prl_plan.specs.declared.events.Action.TheVariants as actions
use Rattle.prl_plan.specs.Vocabulary.{HasCells, no_used, encoded_release, encoded_deadline, IsJob, IsActionOf, IsAtPort, IsHalfOf, cell_of, edge_at, no_edge, operands_before, place_on, action_at}
use Rattle.prl_plan.specs.declared.events.SlotNo.{SlotNo}
use Rattle.prl_plan.specs.declared.graphs.Edge.{Edge}
use Rattle.prl_plan.specs.declared.graphs.Producer.{Producer}
use Rattle.prl_plan.specs.declared.tables.Used.{Used}
use Rattle.prl_plan.specs.declared.graphs.Producer.TheVariants as producers
use Rattle.prl_plan.specs.declared.walks.Operand.TheVariants as operands
use Rattle.prl_values.specs.JobValues.{reads_of_job, value_from}
use Rattle.prl_values.specs.Workers.{HasBegun, HasEnded, HasTaken, HaveWorkLaws, IsReady, IsWorker}
use Rattle.prl_values.specs.declared.workers.Worker.{Worker}
use Rattle.prl_values.proofs.Operands.{Reads}
use Rattle.prl_values.proofs.Serving.{has_ended, has_taken, has_written, low_read, may_begin, may_take, output_is, output_there, port_of_edge}
use Rattle.prl_rule.specs.Vocabulary.{edge_in, instance_on, job_values_of, run_of, values_of, HasValueFacts, half_with}
use Rattle.prl_rule.specs.declared.views.Constants.{Constants}
use Rattle.prl_board.specs.code.Lows.{Gives}
use Rattle.prl_rule.proofs.CellEdges.{edge_in_range}

module _ (k : Constants) (work : HaveWorkLaws k.plan k.horizon k.bodies k.sensors) (facts : HasValueFacts (run_of k) (values_of k))
    (i n p : ℕ) (job : IsJob (run_of k) i n) (worker : Worker)
    (fit : IsWorker k.plan k.bodies k.horizon.until (job_values_of k) i n p worker) where
  abbrev Fits : ℕ → ℕ → Worker → Type 0
  Fits n p next = IsWorker k.plan k.bodies k.horizon.until (job_values_of k) i n p next

  abbrev MayTake : ℕ → Value → Type 0
  MayTake port value = (port < length worker.operands.items) × (port + 1 ≡ length worker.operands.items → IsReady k.sensors k.bodies n (set worker.operands.items port value) worker)

  at_port : (port : ℕ) (value : Value) → IsAtPort port (action_at (run_of k) i n p) →
      slice_get ((values_of k).operands i n) (operands_before ((run_of k).actions i n) p) ≡ Some value →
      slice_get (reads_of_job k.plan.graph (job_values_of k) i n) port ≡ Some value
  unfolding values_of
  at_port port value at found = ap (slice_get (reads_of_job k.plan.graph (job_values_of k) i n)) (sym (work.ports i n p port at)) ∙ found

  -- a constant is read
  module _ (port : ℕ) (value : Value) (is : action_at (run_of k) i n p ≡ actions.ReadConst port value) where
    const_there : slice_get (reads_of_job k.plan.graph (job_values_of k) i n) port ≡ Some value
    const_there = at_port port value (subst (IsAtPort port) (sym is) refl) (facts.constant i n p port value job is)

    pub const_may : MayTake port value
    const_may = may_take k.plan k.horizon k.bodies k.sensors work i n job p worker fit (actions.ReadConst port value) is tt refl port refl value const_there

    pub const_taken : (next : Worker) → HasTaken k.sensors k.bodies port n value worker next → Fits n (p + 1) next
    const_taken = has_taken k.plan k.horizon k.bodies k.sensors work i n job p worker fit (actions.ReadConst port value) is tt refl port refl value const_there

  -- a half is read
  module _ (port : ℕ) (e : EdgeNo) (m : ℕ) (slot : SlotNo) (is : action_at (run_of k) i n p ≡ actions.Read port e m slot) where
    pub low_taken : slot.0 % 2 ≡ 0 → Fits n (p + 1) worker
    low_taken even = low_read k.plan k.horizon k.bodies k.sensors work i n job p worker fit port e m slot is even

    module _ (odd : slot.0 % 2 ≡ 1) where
      high_there : slice_get (reads_of_job k.plan.graph (job_values_of k) i n) port ≡ Some ((values_of k).stored (slot.0 / 2) m)
      high_there = at_port port ((values_of k).stored (slot.0 / 2) m) (subst (IsAtPort port) (sym is) refl) (facts.operand i n p port e m slot job is odd)

      pub high_may : MayTake port ((values_of k).stored (slot.0 / 2) m)
      high_may = may_take k.plan k.horizon k.bodies k.sensors work i n job p worker fit (actions.Read port e m slot) is tt odd port refl ((values_of k).stored (slot.0 / 2) m) high_there

      pub high_taken : (next : Worker) → HasTaken k.sensors k.bodies port n ((values_of k).stored (slot.0 / 2) m) worker next → Fits n (p + 1) next
      high_taken = has_taken k.plan k.horizon k.bodies k.sensors work i n job p worker fit (actions.Read port e m slot) is tt odd port refl ((values_of k).stored (slot.0 / 2) m) high_there

  -- the job ends
  module _ (is : action_at (run_of k) i n p ≡ actions.End) where
    end_reads : Reads actions.End → ⊥
    end_reads reads = reads

    pub end_may : worker.ran ≡ false → IsReady k.sensors k.bodies n worker.operands.items worker
    end_may = may_begin k.plan k.horizon k.bodies k.sensors work i n job p worker fit actions.End is end_reads

    pub end_left : (begun next : Worker) → HasBegun k.sensors k.bodies n worker begun → HasEnded begun next → Fits (n + 1) 0 next
    end_left = has_ended k.plan k.horizon k.bodies k.sensors work i n job p worker fit actions.End is end_reads

  -- a half is written
  module _ (e : EdgeNo) (m : ℕ) (slot : SlotNo) (is : action_at (run_of k) i n p ≡ actions.Write e m slot) where
    write_reads : Reads (actions.Write e m slot) → ⊥
    write_reads reads = reads

    write_fits : IsActionOf k.plan i n (actions.Write e m slot)
    write_fits = subst (IsActionOf k.plan i n) is (work.each i n p)

    pub write_edge : e.0 < length k.plan.graph.edges
    write_edge = write_fits.0

    pub write_own : m ≡ n
    write_own = write_fits.2

    pub write_may : worker.ran ≡ false → IsReady k.sensors k.bodies n worker.operands.items worker
    write_may = may_begin k.plan k.horizon k.bodies k.sensors work i n job p worker fit (actions.Write e m slot) is write_reads

    pub write_left : (next : Worker) → HasBegun k.sensors k.bodies n worker next → Fits n (p + 1) next
    write_left = has_written k.plan k.horizon k.bodies k.sensors work i n job p worker fit (actions.Write e m slot) is write_reads refl

    -- the cells of an edge from a task
    port_cells : (edge : Edge) (from : Producer) (task : TaskNo) (out before base count : ℕ) (used : Used) → from ≡ producers.Port task out →
        HasCells edge from (encoded_release k.plan.graph k.plan.windows) (encoded_deadline k.plan.graph k.plan.windows) before base count used → (base ≡ before) × (1 ≤ count)
    port_cells edge (producers.Port other o) task out before base count used from cells = (cells.0, cells.2.some)
    port_cells edge (producers.Constant value) task out before base count used from cells = absurd (cc from)

    module _ (begun : Worker) (begins : HasBegun k.sensors k.bodies n worker begun) where
      pub edge_port : (source : TaskNo) × (out : ℕ) × ((edge_at k.plan.graph e.0).from ≡ producers.Port source out)
      edge_port = let port = port_of_edge k.plan k.horizon k.bodies k.sensors work i n job p worker fit e m slot is begun begins in (port.0, port.1, port.2)

      same_out : (task : TaskNo) (out : ℕ) → (edge_at k.plan.graph e.0).from ≡ producers.Port task out →
          out ≡ (port_of_edge k.plan k.horizon k.bodies k.sensors work i n job p worker fit e m slot is begun begins).1
      same_out task out from =
          let port = port_of_edge k.plan k.horizon k.bodies k.sensors work i n job p worker fit e m slot is begun begins in
          let both : producers.Port task out ≡ producers.Port port.0 port.1 = sym from ∙ port.2 in cc both

      pub out_there : (task : TaskNo) (out : ℕ) → (edge_at k.plan.graph e.0).from ≡ producers.Port task out → out < length begun.outputs.items
      out_there task out from =
          let same = same_out task out from in omega (arith, output_there k.plan k.horizon k.bodies k.sensors work i n job p worker fit e m slot is begun begins, same)

      cell_is_of : edge_in k.plan.counts (cell_of k.plan e.0 n) ≡ e.0
      cell_is_of =
          let some = port_cells (edge_at k.plan.graph e.0) (edge_at k.plan.graph e.0).from edge_port.0 edge_port.1 (sum (take e.0 k.plan.counts)) (get_or k.plan.bases e.0 0) (get_or k.plan.counts e.0 0)
          (get_or k.plan.used e.0 no_used) edge_port.2 (work.whole.cells.cells e.0 (edge_at k.plan.graph e.0) (slice_get-get_or k.plan.graph.edges e.0 no_edge write_fits.0)) in
          let base = some.0 in
          let less : unwrap_or (place_on k.plan e.0 n) 0 % get_or k.plan.counts e.0 0 < get_or k.plan.counts e.0 0 = mod-lt (unwrap_or (place_on k.plan e.0 n) 0) some.1 in
          edge_in_range k.plan.counts e.0 (cell_of k.plan e.0 n) (omega (arith, work.whole.cells.lengths.1, write_fits.0)) (omega (arith, base)) (omega (arith, base, less))

      cell_of_half : (cell slot : ℕ) → IsHalfOf cell slot → slot / 2 ≡ cell
      cell_of_half cell slot (inl low_) = omega (arith, low_)
      cell_of_half cell slot (inr high_) = omega (arith, high_)

      stored_is : (value : Value) → value_from (job_values_of k) (edge_at k.plan.graph e.0).from (operands.From m) ≡ Some value → (values_of k).stored (slot.0 / 2) n ≡ value
      unfolding values_of
      stored_is value from =
          let cell : edge_in k.plan.counts (slot.0 / 2) ≡ e.0 = ap (edge_in k.plan.counts) (cell_of_half (cell_of k.plan e.0 n) slot.0 write_fits.4) ∙ cell_is_of in
          (λ h. instance_on k (cell h) (sym write_own h)) ∙ ap (λ (o : Option Value). unwrap_or o (values.Int (pos 0))) from

      pub given_half : (task : TaskNo) (out : ℕ) → (edge_at k.plan.graph e.0).from ≡ producers.Port task out → (value : Value) → slice_get begun.outputs.items out ≡ Some value →
          FitsValue value → Gives k n slot (half_with value (slot.0 % 2))
      given_half task out from value at fits =
          let there = ap (slice_get begun.outputs.items) (sym (same_out task out from)) ∙ at in
          let is_value = output_is k.plan k.horizon k.bodies k.sensors work i n job p worker fit e m slot is begun begins value there in
          let same : (values_of k).stored (slot.0 / 2) n ≡ value = stored_is value is_value.1 in (
            ap (λ (x : Value). half_with x (slot.0 % 2)) (sym same),
            subst FitsValue (sym same) fits,
          )
