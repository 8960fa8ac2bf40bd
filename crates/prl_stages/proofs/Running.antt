-- A program that is accepted runs on its plan: the machine has what it needs, and what it tells is of the one behaviour.
use Rattle.prl_base.proofs.Standard.{◌≡◌, ◌++◌, ◌<◌, ◌<ℤ◌, ◌+ℤ◌, ◌*ℤ◌, ℕ, pos, List, [], Option, Some, Ok, length, map, slice_get, refl, sym, ap, ◌∙◌, subst, arith, option_map, ints, AllByRecursion}
use Rattle.prl_base.proofs.Standard.{get_or_from_slice_get, slice_get-map, slice_get_within}
use Rattle.prl_base.specs.Vocabulary.{date_at, type_of}
use Rattle.prl_base.specs.declared.numbers.FlowNo.{FlowNo}
use Rattle.prl_base.specs.declared.operators.Clock.{Clock}
use Rattle.prl_base.specs.declared.values.Ty.{Ty}
use Rattle.prl_base.specs.declared.values.Value.{Value}
use Rattle.prl_ast.specs.Vocabulary.{IsInRange, ProgramTree}
use Rattle.prl_body.specs.Vocabulary.{IsWellTyped, body_tree, HaveBodiesOf}
use Rattle.prl_body.specs.declared.bodies.CheckedBody.{CheckedBody}
use Rattle.prl_track.specs.declared.seen.Seen.{Seen}
use Rattle.prl_evaluation.specs.Evaluations.{AreSolution}
use Rattle.prl_expand.specs.Vocabulary.{Expansion, IsExpansion, flat_of, IsExpanded}
use Rattle.prl_flow.specs.Vocabulary.{AreUpTo, actuator_text, HaveBodies, FlatProgram, HasType, IsFlat, Rows, rows_of, value_at, AreClocks, HasRows as HaveRows, Solves, clock_of, values_of}
use Rattle.prl_flow.specs.Vocabulary.{IsSolution, State, Timed, IsOrder}
use Rattle.prl_flow.specs.declared.programs.OutFlow.{OutFlow}
use Rattle.prl_flow.proofs.Lists.{element_at}
use Rattle.prl_graph.specs.Vocabulary.{value_on_date, values_on_dates, InputPort, ports_of, AreSmallClocks, IsGraphOf}
use Rattle.prl_core.specs.Cores.{CoreView, opened, opened_on}
use Rattle.prl_names.specs.Uses.{used_imports}
use Rattle.prl_replay.specs.Vocabulary.{out_flows, AreFlowsBelow, IsTrace, after_all}
use Rattle.prl_plan.specs.Vocabulary.{IsWellFormed, Placement, alone, constants_of, IsComplete, IsGated, IsHorizonJob, task_at, IsPlan, PlanView, edge_at, no_edge, ExecState, after_events, opening}
use Rattle.prl_plan.specs.declared.events.Event.{Event}
use Rattle.prl_plan.specs.declared.graphs.Edge.{Edge}
use Rattle.prl_plan.specs.declared.graphs.TaskGraph.{TaskGraph}
use Rattle.prl_plan.specs.declared.horizons.Horizon.{Horizon}
use Rattle.prl_board.specs.Closings.{ClosedView, IsClosed}
use Rattle.prl_exec.specs.Runs.{HasEnded}
use Rattle.prl_replay.specs.Shown.{AreShown}
use Rattle.prl_rule.specs.Known.{known}
use Rattle.prl_rule.specs.declared.views.Gate.{Gate}
use Rattle.prl_rule.specs.declared.views.Gate.TheVariants as gates
use Rattle.prl_schedules.specs.Vocabulary.{IsDispatched, text_of_reads, schedule_of, task_names}
use Rattle.prl_sensors.specs.Facts.{AreRowsFor}
use Rattle.prl_sensors.specs.SensorRows.{Inputs, sensors_of}
use Rattle.prl_causal.specs.Vocabulary.{AreTypedRows, HaveTypedBodies, clocks_in, values_in, ExactlyOne}
use Rattle.prl_types.specs.Typing.{IsTyped}
use Rattle.prl_values.specs.Vocabulary.{HaveTaskBodies, HaveTypedRows, AreJobValues, JobValues, job_values, value_on}
use Rattle.prl_stages.specs.declared.faults.InputFile.TheVariants as parts
use Rattle.prl_stages.specs.Vocabulary.{Given, text_of, AreBodies, IsMain, HasPlacement, IsCoresText, Lists, HasRun, IsCycleText, IsSummary, list_of, sum_of, summary_line, Execution}
use Rattle.prl_stages.specs.Vocabulary.{IsReplayText, ReadFlows, HasRows, meant_flows, rows_for, HasHorizon, HasTable}
use Rattle.prl_stages.specs.declared.ran.Ran.TheVariants as runs
use Rattle.prl_causal.specs.Behaviours.{Satisfies, state_in}
use Rattle.prl_overlaps.specs.declared.entries.Entry.{Entry}
use Rattle.prl_table.specs.Noted.{AreAllNoted}
use Rattle.prl_tables.specs.Tables.{last_unit}
use Rattle.prl_stages.specs.code.Runnings.{RunningLaws}
use Rattle.prl_stages.proofs.Inputs.{enough_rows, typed_rows}
use Rattle.prl_stages.proofs.Meaning as meaning
use Rattle.prl_stages.proofs.SmallClocks.{small_clocks}
use Rattle.prl_stages.proofs.TypedBodies.{checked_are_typed, named_typed}

-- a flow's clock and values among those of all flows
clock_there : (s : State) (i : ℕ) (flow : Timed) → slice_get s.flows i ≡ Some flow → clock_of (clocks_in s) i ≡ flow.clock
clock_there s i flow at =
    get_or_from_slice_get (clocks_in s) i flow.clock (record { period = 1; start = 0 })
    (slice_get-map (λ (f : Timed). f.clock) s.flows i ∙ ap (option_map (λ (f : Timed). f.clock)) at)

values_there : (s : State) (i : ℕ) (flow : Timed) → slice_get s.flows i ≡ Some flow → values_of (values_in s) i ≡ flow.values
values_there s i flow at =
    get_or_from_slice_get (values_in s) i flow.values []
    (slice_get-map (λ (f : Timed). f.values) s.flows i ∙ ap (option_map (λ (f : Timed). f.values)) at)

-- a job that is released before the end has its date before it
before_end : (c : Clock) (n until : ℕ) → (pos c.start +ℤ (pos n *ℤ pos c.period)) <ℤ pos until → date_at c n < until
before_end c n until e = omega (arith, ints, e)

module _ (law : RunningLaws) (g : Given) (p : ProgramTree) (main : ℕ) (types : List Ty) (flat : FlatProgram) (typed : IsTyped p g.node main types)
    (expanded : IsExpanded p main types flat) (range : IsInRange p) (well_formed : IsFlat flat) (clocks : List Clock) (order : List FlowNo)
    (ordered : IsOrder flat order) (bodies : List CheckedBody) (trees : AreBodies g (map body_tree bodies))
    (have : HaveBodiesOf p.imports (used_imports p main) bodies) (rows : Rows) (has : HasRows g flat clocks rows) where
  all_typed : AllByRecursion IsWellTyped bodies
  all_typed = checked_are_typed trees.program.imports (used_imports trees.program trees.main) trees.texts bodies trees.fitting

  fitting : HaveBodies flat bodies
  fitting =
      subst (λ (f : FlatProgram). HaveBodies f bodies) (sym expanded.flat_is)
      (law.fitted p g.node main types expanded.expansion range typed expanded.is bodies have)

  are : AreClocks flat clocks
  are = has.clocked.only.are

  small : AreSmallClocks clocks
  small = small_clocks flat clocks has.clocked.only

  enough : HaveRows flat clocks rows g.until
  enough = enough_rows flat clocks g.until well_formed law.read (text_of g parts.Sensors) rows has.read are

  row_types : AreTypedRows flat rows
  row_types = typed_rows flat clocks g.until well_formed law.read (text_of g parts.Sensors) rows has.read

  one_state : ExactlyOne (λ (s : State). IsSolution flat bodies rows g.until s × (clocks_in s ≡ clocks))
  one_state =
      law.solved flat clocks order bodies rows g.until well_formed are ordered fitting
      (λ k app body found named. named_typed bodies app.name body all_typed named) enough

  abbrev table : List (List Value)
  table = values_in one_state.one

  solution : AreSolution flat clocks bodies rows g.until table
  solution = record {
    state = one_state.one;
    is = one_state.is.0;
    clocks_are = one_state.is.1;
    values_are = refl;
    only = λ other is on. one_state.only other (is, on);
  }

  solved : Solves flat clocks bodies rows g.until table
  solved =
      subst (λ (cs : List Clock). Solves flat cs bodies rows g.until table) one_state.is.1
      (law.solves flat bodies rows g.until one_state.one well_formed one_state.is.0).1

  -- exactly one behaviour satisfies the program
  pub behaviour : ExactlyOne (Satisfies p main bodies rows g.until)
  behaviour = meaning.one law.meaning_laws p g.node main types flat typed expanded well_formed clocks has.clocked.only bodies rows g.until table solution

  module _ (plan : PlanView) (is_plan : IsPlan plan) (is_graph : IsGraphOf flat clocks plan.graph) where
    -- the machine of the plan in a state
    abbrev core_at : Placement → Horizon → ExecState → CoreView
    core_at placement horizon s = record (opened_on plan placement bodies rows horizon) { state = s }

    pub bodies_there : HaveTaskBodies plan.graph bodies
    bodies_there = law.task_bodies flat clocks bodies plan.graph well_formed is_graph fitting all_typed

    rows_up_to : HaveTypedRows plan.graph g.until rows
    rows_up_to = law.task_rows flat clocks rows g.until plan.graph well_formed is_graph enough row_types

    pub rows_there : (horizon : Horizon) → horizon.until ≡ g.until → HaveTypedRows plan.graph horizon.until rows
    rows_there horizon same = subst (λ (n : ℕ). HaveTypedRows plan.graph n rows) (sym same) rows_up_to

    -- the operand of a job is what the flow of its port has at the operand's date
    on_date : (e n : ℕ) (port : InputPort) → slice_get (ports_of flat) e ≡ Some port → IsHorizonJob plan.graph g.until port.task n → date_at (clock_of clocks port.flow) n < g.until
        → value_on (job_values plan.graph bodies rows g.until) (edge_at plan.graph e) n ≡ value_on_date clocks table port.flow n
    on_date e n port found job early =
        let below = slice_get_within (ports_of flat) e port found in
        let count = is_graph.edges.count in
        let inside : e < length plan.graph.edges = omega (arith, below, count) in
        let x = element_at plan.graph.edges e inside in
        let edge_is : edge_at plan.graph e ≡ x.0 = get_or_from_slice_get plan.graph.edges e x.0 no_edge x.1 in
        let into : (edge_at plan.graph e).to.0 ≡ port.task = ap (λ (y : Edge). y.to.0) edge_is ∙ (is_graph.edges.each e port x.0 found x.1).to in
        let reads : IsHorizonJob plan.graph g.until (edge_at plan.graph e).to.0 n = subst (λ (k : ℕ). IsHorizonJob plan.graph g.until k n) (sym into) job in
        let dates = values_on_dates flat clocks table plan.graph in
        law.agree plan is_plan bodies rows g.until (job_values plan.graph bodies rows g.until) dates (law.exist plan is_plan bodies rows g.until)
        (law.given flat clocks bodies rows g.until table well_formed are small fitting all_typed solved plan.graph is_graph is_plan.graph) e n inside reads
        ∙ ap (λ (y : Edge). value_on dates y n) edge_is
        ∙ law.operands flat clocks bodies rows g.until table well_formed are small solved plan.graph is_graph e port x.0 found x.1 n early

    -- and at the job's date, which is that of its task's clock
    reads_are : ReadFlows flat plan.graph bodies rows g.until one_state.one.flows
    reads_are e n port flow found at job =
        let of : clock_of clocks port.flow ≡ flow.clock = subst (λ (cs : List Clock). clock_of cs port.flow ≡ flow.clock) one_state.is.1 (clock_there one_state.one port.flow flow at) in
        let task : (task_at plan.graph port.task).clock ≡ clock_of clocks port.flow = law.clock_of_task flat clocks well_formed are small plan.graph is_graph e port found in
        let early : date_at (task_at plan.graph port.task).clock n < g.until = before_end (task_at plan.graph port.task).clock n g.until job.early in
        let date : date_at (clock_of clocks port.flow) n < g.until = subst (λ (c : Clock). date_at c n < g.until) task early in
        on_date e n port found job date
        ∙ ap (λ (c : Clock). value_at c (values_of table port.flow) (date_at c n)) of
        ∙ ap (λ (values : List Value). value_at flow.clock values (date_at flow.clock n)) (values_there one_state.one port.flow flow at)
        ∙ ap (λ (c : Clock). value_at flow.clock flow.values (date_at c n)) (sym (task ∙ of))

    -- what the actuators get are main's outputs
    outputs_are : (placement : Placement) (horizon : Horizon) → horizon.until ≡ g.until → (s : ExecState) (outs : List OutFlow)
        → AreFlowsBelow (core_at placement horizon s) (length plan.graph.tasks) outs → AreUpTo horizon.until outs
        → outs ≡ out_flows flat.out_devices clocks table 0 flat.outs
    outputs_are placement horizon same s outs below up_to =
        law.got flat clocks table (core_at placement horizon s) outs well_formed are small fitting all_typed
        (subst (λ (n : ℕ). Solves flat clocks bodies rows n table) (sym same) solved) is_graph is_plan below up_to

    -- what the texts mean, with the plan
    pub execution : (horizon : Horizon) → HasHorizon g plan horizon → IsMain g p main → Execution g
    unfolding solution one_state
    execution horizon has_horizon is_main =
        let only = has.clocked.only in
        let one = meaning.one law.meaning_laws p g.node main types flat typed expanded well_formed clocks only bodies rows g.until table solution in
        let state = meaning.state_is law.meaning_laws p g.node main types flat typed expanded well_formed clocks only bodies rows g.until table solution in
        let clocked : clocks ≡ clocks_in (state_in one.one) = sym (ap clocks_in state ∙ one_state.is.1) in
        record {
          meaning = record {
            program = p;
            main = main;
            is_main = is_main;
            bodies = bodies;
            are_bodies = trees;
            rows = rows;
            one = one;
            flat = flat;
            flattened = has.clocked.causal.flattened;
            read = subst (λ (cs : List Clock). rows_for g flat cs ≡ Ok rows) clocked has.read;
          };
          plan = plan;
          horizon = horizon;
          has_horizon = has_horizon;
          is_graph = subst (λ (cs : List Clock). IsGraphOf flat cs plan.graph) clocked is_graph;
          meant = subst (λ (s : State). ReadFlows flat plan.graph bodies rows g.until s.flows) (sym state) reads_are;
        }

    module _ (horizon : Horizon) (has_horizon : HasHorizon g plan horizon) (is_main : IsMain g p main) where
      -- it is that of this plan and its horizon, of these bodies and of these rows
      pub plan_is : (execution horizon has_horizon is_main).plan ≡ plan
      unfolding execution
      plan_is = refl

      pub horizon_is : (execution horizon has_horizon is_main).horizon ≡ horizon
      unfolding execution
      horizon_is = refl

      pub bodies_are : (execution horizon has_horizon is_main).meaning.bodies ≡ bodies
      unfolding execution
      bodies_are = refl

      pub rows_are : (execution horizon has_horizon is_main).meaning.rows ≡ rows
      unfolding execution
      rows_are = refl

      -- what the actuators have got in a state, where it is up to the date, are main's outputs in what the texts mean
      pub placed_outs : (placement : Placement) (s : ExecState) (outs : List OutFlow) → AreFlowsBelow (core_at placement horizon s) (length plan.graph.tasks) outs
          → AreUpTo horizon.until outs
          → outs ≡ meant_flows g (execution horizon has_horizon is_main).meaning
      unfolding execution solution one_state
      placed_outs placement s outs below up_to =
          outputs_are placement horizon has_horizon.until s outs below up_to
          ∙ meaning.outs law.meaning_laws p g.node main types flat typed expanded well_formed clocks has.clocked.only bodies rows g.until table solution

      pub text_is : (events : List Event)
          → schedule_of (task_names plan) (text_of g parts.Schedule) ≡ Ok events → (reads : List Seen) (outs : List OutFlow)
          → IsTrace (opened plan bodies rows horizon) events reads outs → AreUpTo horizon.until outs → (text : List ℕ)
          → text ≡ text_of_reads (task_names plan) reads ++ actuator_text g.until outs → IsReplayText g text
      unfolding execution
      text_is events listed reads outs trace up_to text written = record {
        execution = execution horizon has_horizon is_main;
        events = events;
        listed = listed;
        reads = reads;
        outs = outs;
        trace = trace;
        outputs = placed_outs (alone plan) (after_all (opened plan bodies rows horizon) events).state outs trace.flows up_to;
        written = written;
      }

      -- the same on several processors
      pub cores_text_is : (placement : Placement) → HasPlacement g plan placement → (events : List Event) → Lists g.listed g plan placement horizon events
          → IsGated (constants_of plan horizon) (opening (constants_of plan horizon)) events → (reads : List Seen) (outs : List OutFlow)
          → IsTrace (opened_on plan placement bodies rows horizon) events reads outs → AreUpTo horizon.until outs → (text : List ℕ)
          → text ≡ text_of_reads (task_names plan) reads ++ actuator_text g.until outs → IsCoresText g text
      unfolding execution
      cores_text_is placement placed events listed gated reads outs trace up_to text written = record {
        execution = execution horizon has_horizon is_main;
        placement = placement;
        has_placement = placed;
        events = events;
        listed = listed;
        gated = gated;
        reads = reads;
        outs = outs;
        trace = trace;
        outputs = placed_outs placement (after_all (opened_on plan placement bodies rows horizon) events).state outs trace.flows up_to;
        written = written;
      }

      -- a closed board on which every job has ended and which shows main's outputs
      pub run_is : (under : Gate) (closed : ClosedView) → closed.constants ≡ Some (known plan horizon under rows bodies)
          → IsClosed (known plan horizon under rows bodies) closed.words closed.seats → HasEnded closed
          → AreShown closed plan.graph (meant_flows g (execution horizon has_horizon is_main).meaning) → HasRun g (execution horizon has_horizon is_main) under closed
      unfolding execution
      run_is under closed its is ended shown = record { constants = its; is = is; ended = ended; shown = shown }

      -- with the good table by which the tasks have run
      pub cycle_is : (entries : List Entry) → HasTable g plan entries
          → IsGated (constants_of plan horizon) (opening (constants_of plan horizon)) (list_of plan horizon entries)
          → IsComplete (constants_of plan horizon) (after_events (constants_of plan horizon) (opening (constants_of plan horizon)) (list_of plan horizon entries))
          → (closed : ClosedView) → HasRun g (execution horizon has_horizon is_main) gates.Gated closed
          → (ticks : List (List (Option ℕ))) → AreAllNoted (constants_of plan horizon) (last_unit plan.graph entries) ticks
          → (text : List ℕ) → text ≡ actuator_text g.until (meant_flows g (execution horizon has_horizon is_main).meaning)
          → IsCycleText g text (runs.Driven (closed, ticks))
      unfolding execution
      cycle_is entries table gated complete closed run ticks by text written = record {
        execution = execution horizon has_horizon is_main;
        entries = entries;
        has_table = table;
        gated = gated;
        complete = complete;
        closed = closed;
        ticks = ticks;
        driven = refl;
        run = run;
        by = by;
        written = written;
      }

      -- with the replay of the dispatched list
      pub summary_is : (closed : ClosedView) → HasRun g (execution horizon has_horizon is_main) gates.Gated closed → (events : List Event)
          → IsDispatched (constants_of plan horizon) (opening (constants_of plan horizon)) events → (reads : List Seen)
          → IsTrace (opened plan bodies rows horizon) events reads (meant_flows g (execution horizon has_horizon is_main).meaning)
          → (seed size : ℕ) (text : List ℕ)
          → text ≡ summary_line seed size (length plan.graph.tasks) (length plan.graph.edges) horizon.jobs (length reads)
          (sum_of (meant_flows g (execution horizon has_horizon is_main).meaning))
          → IsSummary g seed size text (runs.Ended closed)
      unfolding execution
      summary_is closed run events dispatched reads trace seed size text written = record {
        execution = execution horizon has_horizon is_main;
        closed = closed;
        ended = refl;
        run = run;
        events = events;
        dispatched = dispatched;
        reads = reads;
        trace = trace;
        written = written;
      }
