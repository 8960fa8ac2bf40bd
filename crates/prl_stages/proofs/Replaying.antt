-- Exactly one behaviour satisfies a program that has clocks, bodies and rows, and each legal and complete schedule of its plan has a replay.
use Rattle.std.proofs.Common.{◌≡◌, ◌++◌, ℕ, List, Ok, length, map, refl, sym, subst}
use Rattle.prl_base.specs.declared.numbers.FlowNo.{FlowNo}
use Rattle.prl_base.specs.declared.operators.Clock.{Clock}
use Rattle.prl_ast.specs.Vocabulary.{IsInRange, ProgramTree}
use Rattle.prl_body.specs.Vocabulary.{body_tree, HaveBodiesOf}
use Rattle.prl_body.specs.declared.bodies.CheckedBody.{CheckedBody}
use Rattle.prl_track.specs.declared.seen.Seen.{Seen}
use Rattle.prl_flow.specs.Vocabulary.{AreUpTo, actuator_text, FlatProgram, IsFlat, Rows, IsOrder, IsSolution}
use Rattle.prl_flow.specs.declared.programs.OutFlow.{OutFlow}
use Rattle.prl_causal.specs.Behaviours.{Satisfies, state_in}
use Rattle.prl_causal.specs.Vocabulary.{ExactlyOne, clocks_in}
use Rattle.prl_graph.specs.TaskGraphs.{IsGraphOf}
use Rattle.prl_core.specs.Cores.{opened, opened_on}
use Rattle.prl_names.specs.Uses.{used_imports}
use Rattle.prl_plan.specs.Vocabulary.{HasPlanFacts, Placement, alone, constants_of, constants_on, IsPlan, PlanView, IsComplete, IsGated, IsLegal, after_events, opening}
use Rattle.prl_board.specs.Closings.{ClosedView}
use Rattle.prl_tables.specs.Tables.{last_unit}
use Rattle.prl_plan.specs.declared.events.Event.{Event}
use Rattle.prl_plan.specs.declared.horizons.Horizon.{Horizon}
use Rattle.prl_expand.specs.Flats.{flat_of}
use Rattle.prl_replay.specs.Shown.{AreShown}
use Rattle.prl_rule.specs.Known.{known}
use Rattle.prl_rule.specs.declared.views.Constants.{Constants}
use Rattle.prl_rule.specs.declared.views.Gate.{Gate}
use Rattle.prl_rule.specs.declared.views.Gate.TheVariants as gates
use Rattle.prl_schedules.specs.Vocabulary.{IsDispatched, text_of_reads, schedule_of, task_names}
use Rattle.prl_replay.specs.Replays.{AreFlowsBelow, IsTrace, after_all}
use Rattle.prl_replay.proofs.Ends.{ended_all, flows_up_to}
use Rattle.prl_overlaps.specs.declared.entries.Entry.{Entry}
use Rattle.prl_values.specs.Vocabulary.{HaveTaskBodies, HaveTypedRows, job_values}
use Rattle.prl_stages.specs.declared.faults.InputFile.TheVariants as parts
use Rattle.prl_stages.specs.Vocabulary.{Given, text_of, IsFlattened, AreBodies, IsMain, HasGraph, HasPlan, IsCoresText, IsPlacedRun, HasRun, IsCycleText, IsRunOf, IsRunText, IsSummary, sum_of}
use Rattle.prl_stages.specs.Vocabulary.{summary_line, Execution, IsReplayText, HasRows, Meaning, meant_flows, rows_for, HasHorizon, IsWhole, HasTable, PartLaws, RunningLaws, WholeLaws}
use Rattle.prl_stages.specs.declared.ran.Ran.{Ran}
use Rattle.prl_stages.specs.declared.ran.Ran.TheVariants as runs
use Rattle.prl_stages.proofs.Boards.{are_shown, board, has_ended, is_closed}
use Rattle.prl_stages.proofs.LastStates.{none_open}
use Rattle.prl_stages.proofs.Ticks.{all_are_noted, all_ticks}
use Rattle.prl_stages.proofs.OneParts as ones
use Rattle.prl_stages.proofs.Running as running

module _ (one : PartLaws) (law : RunningLaws) (whole : WholeLaws) (g : Given) (bodies : List CheckedBody) (trees : AreBodies g (map body_tree bodies))
    (flat : FlatProgram) (clocks : List Clock) (rows : Rows) (has : HasRows g flat clocks rows) where
  made : IsFlattened g flat
  made = has.clocked.causal.flattened

  have : HaveBodiesOf made.program.imports (used_imports made.program made.main) bodies
  have =
      let first = whole.used trees.program.imports (used_imports trees.program trees.main) trees.texts bodies trees.fitting in
      let programs = ones.one_program one g trees.program made.program trees.is_main.program made.is_main.program in
      let mains = ones.one_main one g trees.program trees.main made.program made.main trees.is_main made.is_main in
      let at = subst (λ (x : ProgramTree). HaveBodiesOf x.imports (used_imports x trees.main) bodies) programs first in
      subst (λ (m : ℕ). HaveBodiesOf made.program.imports (used_imports made.program m) bodies) mains at

  formed : IsFlat flat
  formed = ones.is_flat one g flat made

  order : (order : List FlowNo) × IsOrder flat order
  order = whole.orders flat formed has.clocked.causal.acyclic

  -- exactly one behaviour satisfies the program
  pub behaviour_there : (p : ProgramTree) (main : ℕ) → IsMain g p main → ExactlyOne (Satisfies p main bodies rows g.until)
  behaviour_there p main is =
      let range = one.ranges (text_of g parts.Program) made.program made.is_main.program.written in
      let here = running.behaviour law g made.program made.main made.is_main.types flat made.is_main.typed made.expanded range formed clocks order.0 order.1 bodies trees have rows has in
      let programs = ones.one_program one g made.program p made.is_main.program is.program in
      let mains = ones.one_main one g made.program made.main p main made.is_main is in
      subst (λ (m : ℕ). ExactlyOne (Satisfies p m bodies rows g.until)) mains
      (subst (λ (x : ProgramTree). ExactlyOne (Satisfies x made.main bodies rows g.until)) programs here)

  -- the task graph is that of these clocks
  graph_there : (plan : PlanView) → HasPlan g plan → IsGraphOf flat clocks plan.graph
  graph_there plan has_plan =
      let of : HasGraph g plan.graph = has_plan.has_graph in
      let flats = ones.one_flat one g of.flat flat of.clocked.causal.flattened made in
      let same = ones.one_clocks one g of.flat flat of.clocks clocks of.clocked has.clocked in
      let at : IsGraphOf flat of.clocks plan.graph = subst (λ (p : FlatProgram). IsGraphOf p of.clocks plan.graph) flats of.is_graph in
      subst (λ (cs : List Clock). IsGraphOf flat cs plan.graph) same at

  -- what the texts mean
  pub meaning_there : Meaning g
  meaning_there =
      let b = behaviour_there made.program made.main made.is_main in
      let solved : IsSolution (flat_of made.program made.is_main.types made.main made.expanded.expansion) bodies rows g.until (state_in b.one) =
      (law.meaning_laws.solutions made.program g.node made.main made.is_main.types made.expanded.expansion made.is_main.typed made.expanded.is bodies rows g.until).into b.one b.is in
      let solution : IsSolution flat bodies rows g.until (state_in b.one) =
      subst (λ (p : FlatProgram). IsSolution p bodies rows g.until (state_in b.one)) (sym made.expanded.flat_is) solved in
      let clocked : clocks_in (state_in b.one) ≡ clocks = law.meaning_laws.clocks flat formed clocks has.clocked.only bodies rows g.until (state_in b.one) solution in
      record {
        program = made.program;
        main = made.main;
        is_main = made.is_main;
        bodies = bodies;
        are_bodies = trees;
        rows = rows;
        one = b;
        flat = flat;
        flattened = made;
        read = subst (λ (cs : List Clock). rows_for g flat cs ≡ Ok rows) (sym clocked) has.read;
      }

  module _ (plan : PlanView) (horizon : Horizon) (has_horizon : HasHorizon g plan horizon) where
    is_plan : IsPlan plan
    is_plan = has_horizon.has_plan.is_plan

    is_graph : IsGraphOf flat clocks plan.graph
    is_graph = graph_there plan has_horizon.has_plan

    range : IsInRange made.program
    range = one.ranges (text_of g parts.Program) made.program made.is_main.program.written

    bodies_serve : HaveTaskBodies plan.graph bodies
    bodies_serve =
        running.bodies_there law g made.program made.main made.is_main.types flat made.is_main.typed made.expanded range formed clocks order.0 order.1 bodies trees have
        rows has plan is_plan is_graph

    rows_serve : HaveTypedRows plan.graph horizon.until rows
    rows_serve =
        running.rows_there law g made.program made.main made.is_main.types flat made.is_main.typed made.expanded range formed clocks order.0 order.1 bodies trees have
        rows has plan is_plan is_graph horizon has_horizon.until

    -- after a whole run the flows are up to the date
    placed_up_to : (placement : Placement) → HasPlanFacts (constants_on plan placement horizon) → (events : List Event)
        → IsLegal (constants_on plan placement horizon) (opening (constants_on plan placement horizon)) events
        → IsComplete (constants_on plan placement horizon) (after_events (constants_on plan placement horizon) (opening (constants_on plan placement horizon)) events)
        → (outs : List OutFlow) → AreFlowsBelow (after_all (opened_on plan placement bodies rows horizon) events) (length plan.graph.tasks) outs
        → AreUpTo horizon.until outs
    placed_up_to placement facts events legal complete outs below =
        let c = constants_on plan placement horizon in
        let few = whole.few c facts events (whole.gated c facts events legal) in
        let core = after_all (opened_on plan placement bodies rows horizon) events in
        flows_up_to core is_plan (whole.counted plan.graph horizon.until) (ended_all core complete few) outs below

    -- what the texts mean with the plan is written of the reads and flows of a run
    pub some_text : (events : List Event) → schedule_of (task_names plan) (text_of g parts.Schedule) ≡ Ok events → IsWhole plan horizon events
        → (text : List ℕ) × IsReplayText g text
    some_text events listed whole_list =
        let r = whole.replayed plan (alone plan) bodies rows horizon is_plan has_horizon.is_horizon (whole.facts plan horizon is_plan has_horizon.is_horizon) bodies_serve rows_serve
        events whole_list.legal whole_list.complete in
        let up_to = placed_up_to (alone plan) (whole.facts plan horizon is_plan has_horizon.is_horizon) events whole_list.legal whole_list.complete r.1 r.2.flows in
        let text = text_of_reads (task_names plan) r.0 ++ actuator_text g.until r.1 in (
          text,
          running.text_is law g made.program made.main made.is_main.types flat made.is_main.typed made.expanded range formed clocks order.0 order.1 bodies trees have
              rows has plan is_plan is_graph horizon has_horizon made.is_main events listed r.0 r.1 r.2 up_to text refl,
        )

    -- and on several processors
    pub some_cores_text : (placement : Placement) → IsPlacedRun g plan placement horizon → (text : List ℕ) × IsCoresText g text
    some_cores_text placement run =
        let spread = run.has_placement.spread in
        let facts = whole.spread_facts plan horizon placement is_plan has_horizon.is_horizon spread in
        let gated = whole.spread_gated plan horizon placement is_plan has_horizon.is_horizon spread run.events run.legal in
        let r = whole.replayed plan placement bodies rows horizon is_plan has_horizon.is_horizon facts bodies_serve rows_serve run.events run.legal run.complete in
        let up_to = placed_up_to placement facts run.events run.legal run.complete r.1 r.2.flows in
        let text = text_of_reads (task_names plan) r.0 ++ actuator_text g.until r.1 in (
          text,
          running.cores_text_is law g made.program made.main made.is_main.types flat made.is_main.typed made.expanded range formed clocks order.0 order.1 bodies trees have
              rows has plan is_plan is_graph horizon has_horizon made.is_main placement run.has_placement run.events run.listed gated r.0 r.1 r.2 up_to text refl,
        )

    -- what the texts mean with the plan
    abbrev meant : Execution g
    meant =
        running.execution law g made.program made.main made.is_main.types flat made.is_main.typed made.expanded range formed clocks order.0 order.1 bodies trees have
        rows has plan is_plan is_graph horizon has_horizon made.is_main

    dispatched : (events : List Event) × IsDispatched (constants_of plan horizon) (opening (constants_of plan horizon)) events
    dispatched = whole.dispatched plan horizon is_plan has_horizon.is_horizon

    facts : HasPlanFacts (constants_of plan horizon)
    facts = whole.facts plan horizon is_plan has_horizon.is_horizon

    legal : IsLegal (constants_of plan horizon) (opening (constants_of plan horizon)) dispatched.0
    legal = whole.legal (constants_of plan horizon) facts (opening (constants_of plan horizon)) dispatched.0 dispatched.1

    complete : IsComplete (constants_of plan horizon) (after_events (constants_of plan horizon) (opening (constants_of plan horizon)) dispatched.0)
    complete = whole.complete (constants_of plan horizon) (opening (constants_of plan horizon)) dispatched.0 dispatched.1

    replay : (reads : List Seen) × (outs : List OutFlow) × IsTrace (opened plan bodies rows horizon) dispatched.0 reads outs
    replay = whole.replayed plan (alone plan) bodies rows horizon is_plan has_horizon.is_horizon facts bodies_serve rows_serve dispatched.0 legal complete

    outs_meant : replay.1 ≡ meant_flows g meant.meaning
    outs_meant =
        running.placed_outs law g made.program made.main made.is_main.types flat made.is_main.typed made.expanded range formed clocks order.0 order.1 bodies trees have
        rows has plan is_plan is_graph horizon has_horizon made.is_main (alone plan) (after_all (opened plan bodies rows horizon) dispatched.0).state replay.1 replay.2.flows
        (placed_up_to (alone plan) facts dispatched.0 legal complete replay.1 replay.2.flows)

    abbrev known_of : Gate → Constants
    known_of under = known plan horizon under rows bodies

    -- a board on which every job has ended, and which shows main's outputs
    gated : IsGated (constants_of plan horizon) (opening (constants_of plan horizon)) dispatched.0
    gated = whole.gated (constants_of plan horizon) facts dispatched.0 legal

    -- the board that the dispatched list leads to
    abbrev last : Gate → ClosedView
    last under = board (known_of under) (after_events (constants_of plan horizon) (opening (constants_of plan horizon)) dispatched.0)

    run_there : (under : Gate) → HasRun g meant under (last under)
    run_there under =
        let core = after_all (opened plan bodies rows horizon) dispatched.0 in
        let few = whole.few (constants_of plan horizon) facts dispatched.0 gated in
        let all = ended_all core complete few in
        let closed = is_closed (known_of under) core.state dispatched.0 gated refl all (none_open (constants_of plan horizon) dispatched.0 gated complete) in
        let values = law.exist plan is_plan bodies rows horizon.until in
        let shown = are_shown (known_of under) core.state is_plan (whole.counted plan.graph horizon.until)
        (whole.typed plan is_plan bodies rows horizon.until (job_values plan.graph bodies rows horizon.until) bodies_serve rows_serve values)
        all replay.1 replay.2.flows in
        running.run_is law g made.program made.main made.is_main.types flat made.is_main.typed made.expanded range formed clocks order.0 order.1 bodies trees have
        rows has plan is_plan is_graph horizon has_horizon made.is_main under (last under) refl closed (has_ended (known_of under) core.state)
        (subst (AreShown (last under) plan.graph) outs_meant shown)

    run_of_there : (under : Gate) → IsRunOf g meant under (actuator_text g.until (meant_flows g meant.meaning)) (runs.Ended (last under))
    run_of_there under = record { closed = last under; ended = refl; run = run_there under; written = refl }

    pub some_run_text : (under : Gate) → (text : List ℕ) × (ran : Ran) × IsRunText g under text ran
    some_run_text under = (actuator_text g.until (meant_flows g meant.meaning), runs.Ended (last under), (meant, run_of_there under))

    pub some_cycle_text : (entries : List Entry) → HasTable g plan entries → (text : List ℕ) × (ran : Ran) × IsCycleText g text ran
    some_cycle_text entries table = (
      actuator_text g.until (meant_flows g meant.meaning),
      runs.Driven (last gates.Gated, all_ticks (constants_of plan horizon) (last_unit plan.graph entries)),
      running.cycle_is law g made.program made.main made.is_main.types flat made.is_main.typed made.expanded range formed clocks order.0 order.1 bodies trees have
          rows has plan is_plan is_graph horizon has_horizon made.is_main entries table
          (whole.table_gated plan horizon is_plan has_horizon.is_horizon entries table.good) (whole.table_complete plan horizon is_plan has_horizon.is_horizon entries table.good)
          (last gates.Gated) (run_there gates.Gated) (all_ticks (constants_of plan horizon) (last_unit plan.graph entries))
          (all_are_noted (constants_of plan horizon) (last_unit plan.graph entries)) (actuator_text g.until (meant_flows g meant.meaning)) refl,
    )

    pub some_summary : (seed size : ℕ) → (text : List ℕ) × (ran : Ran) × IsSummary g seed size text ran
    some_summary seed size =
        let outs : List OutFlow = meant_flows g meant.meaning in
        let trace = subst (IsTrace (opened plan bodies rows horizon) dispatched.0 replay.0) outs_meant replay.2 in
        let text = summary_line seed size (length plan.graph.tasks) (length plan.graph.edges) horizon.jobs (length replay.0) (sum_of outs) in (
          text,
          runs.Ended (last gates.Gated),
          running.summary_is law g made.program made.main made.is_main.types flat made.is_main.typed made.expanded range formed clocks order.0 order.1 bodies trees have
              rows has plan is_plan is_graph horizon has_horizon made.is_main (last gates.Gated) (run_there gates.Gated) dispatched.0 dispatched.1
              replay.0 trace seed size text refl,
        )
