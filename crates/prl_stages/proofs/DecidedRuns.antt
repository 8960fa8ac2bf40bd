-- Stages after the types are decided, by the laws of the crates below: the flat program, its cycles and clocks, the task graph, the
-- horizon, the rows, the schedule and how many values there are.
use Rattle.prl_base.proofs.Standard.{◌≡◌, ◌≢◌, ◌∙◌, ◌<◌, ◌^◌, ◌⊎◌, ℕ, List, Option, Result, Ok, Err, length, refl, ap, inl, inr, subst, ⊎_elim, cases_lt}
use Rattle.prl_ast.specs.Trees.{ProgramTree}
use Rattle.prl_base.specs.declared.limits.Limit.{Limit}
use Rattle.prl_base.specs.declared.operators.Clock.{Clock}
use Rattle.prl_base.specs.declared.values.Ty.{Ty}
use Rattle.prl_causal.specs.Annotations.{flows_in}
use Rattle.prl_clock.specs.Outcomes.{IsOutcome}
use Rattle.prl_clock.specs.declared.calculus.ClockFault.{ClockFault}
use Rattle.prl_clock.specs.declared.calculus.ClockFault.TheVariants as clock_faults
use Rattle.prl_core.specs.Cores.{CoreView}
use Rattle.prl_evaluation.specs.declared.evaluation.TheConstants.{MAX_VALUES}
use Rattle.prl_expand.specs.Vocabulary.{Expansion, IsExpansion, flat_of}
use Rattle.prl_expand.specs.declared.counts.TheConstants.{MAX_FLOWS}
use Rattle.prl_flow.specs.Vocabulary.{values_before, FlatProgram, IsFlat, AreClocks, Rows, HasNoCycle, IsCycleLabel}
use Rattle.prl_graph.specs.TaskGraphs.{AreSmallClocks, IsGraphFault, IsGraphOf, IsOfProgram}
use Rattle.prl_graph.specs.declared.faults.GraphFault.{GraphFault}
use Rattle.prl_graph.specs.declared.faults.GraphFault.TheVariants as graph_faults
use Rattle.prl_plan.specs.Vocabulary.{IsWellFormed, IsHorizon, IsPastLimit, task_at, IsPlan, PlanView}
use Rattle.prl_plan.specs.declared.graphs.TaskGraph.{TaskGraph}
use Rattle.prl_plan.specs.declared.horizons.Horizon.{Horizon}
use Rattle.prl_replay.specs.Replays.{IsReplayFault, IsWholeText}
use Rattle.prl_replay.specs.declared.faults.ReplayFault.{ReplayFault}
use Rattle.prl_replay.specs.declared.faults.ReplayFault.TheVariants as causes
use Rattle.prl_sensors.specs.declared.faults.SensorFault.{SensorFault}
use Rattle.prl_sensors.specs.declared.faults.SensorFault.TheVariants as sensor_faults
use Rattle.prl_sensors.specs.SensorRows.{Inputs, sensors_of}
use Rattle.prl_types.specs.Typing.{IsTyped}
use Rattle.prl_stages.specs.Vocabulary.{ClocksRefusal, GraphRefusal, SensorsRefusal, HasClocks, IsCausal, clock_fault, Given, text_of, IsMain, graph_fault, bare, inputs_of, needs_of, rows_for}
use Rattle.prl_stages.specs.Vocabulary.{sensors_fault, too_many, HasHorizon, Holds, IsDecided, PartLaws}
use Rattle.prl_stages.specs.declared.faults.ClocksRefusal.TheVariants as bad_clocks
use Rattle.prl_stages.specs.declared.faults.Fault.TheVariants as faults
use Rattle.prl_stages.specs.declared.faults.GraphRefusal.TheVariants as bad_graph
use Rattle.prl_stages.specs.declared.faults.InputFile.TheVariants as parts
use Rattle.prl_stages.specs.declared.faults.ScheduleRefusal.TheVariants as bad_schedule
use Rattle.prl_stages.specs.declared.faults.SensorsRefusal.TheVariants as bad_rows
use Rattle.prl_stages.specs.declared.stages.Stage.TheVariants as stages
use Rattle.prl_stages.proofs.OneParts.{is_flat}
use Rattle.prl_stages.proofs.SmallClocks.{small_clocks}

-- the laws of the crates below
pub record Laws : Type 0 where
  pub expansions : (p : ProgramTree) (asked : Option (List ℕ)) (main : ℕ) (types : List Ty) → IsTyped p asked main types → (e : Expansion) × IsExpansion p main e
  pub clocks : (p : FlatProgram) → IsFlat p → (outcome : Result (List Clock) ClockFault) × IsOutcome p outcome
  pub graphs : (p : FlatProgram) (clocks : List Clock) → IsFlat p → AreClocks p clocks → HasNoCycle p
      → ((graph : TaskGraph) × IsGraphOf p clocks graph) ⊎ ((fault : GraphFault) × IsOfProgram fault × IsGraphFault p clocks fault)
  pub formed : (p : FlatProgram) (clocks : List Clock) → IsFlat p → AreClocks p clocks → AreSmallClocks clocks → HasNoCycle p → (graph : TaskGraph)
      → IsGraphOf p clocks graph → IsWellFormed graph
  pub causality : (p : FlatProgram) → IsFlat p → HasNoCycle p ⊎ ((label : List ℕ) × IsCycleLabel p label)
  pub rows : (inputs : Inputs) (needs text : List ℕ) → sensors_of inputs needs text ≢ Err sensor_faults.Memory
  pub horizons : (plan : PlanView) → IsPlan plan → (until : ℕ) → until < 2 ^ 32
      → ((horizon : Horizon) × IsHorizon plan horizon × (horizon.until ≡ until)) ⊎ ((limit : Limit) × IsPastLimit plan until limit)
  pub replays : (core : CoreView) (text : List ℕ) → IsWholeText core text ⊎ ((fault : ReplayFault) × IsReplayFault core text fault)

-- each fault but want of memory is a refusal's
clocks_refusal : (p : FlatProgram) (cause : ClockFault) → IsOutcome p (Err cause) → (r : ClocksRefusal) × (cause ≡ clock_fault r)
clocks_refusal p (clock_faults.Mismatch at) h = (bad_clocks.Mismatch at, refl)
clocks_refusal p (clock_faults.Limit limit) h = (bad_clocks.Limit limit, refl)
clocks_refusal p (clock_faults.Free label) h = (bad_clocks.Free label, refl)
clocks_refusal p (clock_faults.NotWhole label period start) h = (bad_clocks.NotWhole label period start, refl)
clocks_refusal p clock_faults.Memory h = absurd h

graph_refusal : (cause : GraphFault) → IsOfProgram cause → (r : GraphRefusal) × (cause ≡ graph_fault r)
graph_refusal (graph_faults.DueOnNonTask label) of = (bad_graph.DueOnNonTask label, refl)
graph_refusal (graph_faults.DueRange flow due period) of = (bad_graph.DueRange flow due period, refl)
graph_refusal (graph_faults.Limit limit) of = (bad_graph.Limit limit, refl)
graph_refusal graph_faults.Memory of = absurd of

module _ (ones : PartLaws) (law : Laws) (g : Given) where
  expanded_by : (p : ProgramTree) (main : ℕ) → IsMain g p main → (e : Expansion) → IsExpansion p main e → IsDecided g stages.Expansion
  expanded_by p main is_main e is = ⊎_elim
      (λ many. inr (
        faults.Limit _,
        (p, main, is_main, _, (refl, record { expansion = e; is = is; many = many }), refl),
      ))
      (λ few. inl (
        flat_of p is_main.types main e,
        record {
          program = p;
          main = main;
          is_main = is_main;
          expanded = record { expansion = e; is = is; few = few; flat_is = refl };
        },
      ))
      (cases_lt MAX_FLOWS (length (flows_in e)))

  pub expansion_decided : Holds g stages.Types → IsDecided g stages.Expansion
  expansion_decided (p, main, is_main) =
      let e = law.expansions p g.node main is_main.types is_main.typed in
      expanded_by p main is_main e.0 e.1

  pub causality_decided : Holds g stages.Expansion → IsDecided g stages.Causality
  causality_decided (flat, has) = ⊎_elim
      (λ (none : HasNoCycle flat). inl (flat, record { flattened = has; acyclic = none }))
      (λ (x : (label : List ℕ) × IsCycleLabel flat label). inr (faults.Cycle x.0, (flat, has, x.0, x.1, refl)))
      (law.causality flat (is_flat ones g flat has))

  clocked_by : (flat : FlatProgram) → IsCausal g flat → (outcome : Result (List Clock) ClockFault) → IsOutcome flat outcome → IsDecided g stages.Clocks
  clocked_by flat causal (Ok clocks) h = inl (flat, clocks, record { causal = causal; only = h })
  clocked_by flat causal (Err cause) h =
      let r = clocks_refusal flat cause h in
      inr (faults.Clocks r.0, (flat, causal, r.0, subst (λ (x : ClockFault). IsOutcome flat (Err x)) r.1 h, refl))

  pub clocks_decided : Holds g stages.Causality → IsDecided g stages.Clocks
  clocks_decided (flat, causal) =
      let r = law.clocks flat (is_flat ones g flat causal.flattened) in
      clocked_by flat causal r.0 r.1

  module _ (flat : FlatProgram) (clocks : List Clock) (has : HasClocks g flat clocks) where
    graph_by : ((graph : TaskGraph) × IsGraphOf flat clocks graph) ⊎ ((fault : GraphFault) × IsOfProgram fault × IsGraphFault flat clocks fault) → IsDecided g stages.Graph
    graph_by = ⊎_elim
        (λ (x : (graph : TaskGraph) × IsGraphOf flat clocks graph). inl (
          x.0,
          record {
            flat = flat;
            clocks = clocks;
            clocked = has;
            is_graph = x.1;
            well_formed =
                law.formed flat clocks (is_flat ones g flat has.causal.flattened) has.only.are (small_clocks flat clocks has.only) has.causal.acyclic x.0 x.1;
          },
        ))
        (λ (x : (fault : GraphFault) × IsOfProgram fault × IsGraphFault flat clocks fault).
        (let r = graph_refusal x.0 x.1 in
        inr (faults.Graph r.0, (flat, clocks, has, r.0, subst (IsGraphFault flat clocks) r.1 x.2, refl))))

    rows_refused : (cause : SensorFault) → cause ≢ sensor_faults.Memory → (r : SensorsRefusal) × (cause ≡ sensors_fault r)
    rows_refused (sensor_faults.Row number) some = (bad_rows.Row number, refl)
    rows_refused (sensor_faults.NoSensor number) some = (bad_rows.NoSensor number, refl)
    rows_refused (sensor_faults.Order number) some = (bad_rows.Order number, refl)
    rows_refused (sensor_faults.Value number) some = (bad_rows.Value number, refl)
    rows_refused (sensor_faults.Short name have need) some = (bad_rows.Short name have need, refl)
    rows_refused sensor_faults.Memory some = absurd (some refl)

    rows_by : (outcome : Result Rows SensorFault) → rows_for g flat clocks ≡ outcome → IsDecided g stages.Rows
    rows_by (Ok rows) e = inl (flat, clocks, rows, record { clocked = has; read = e })
    rows_by (Err cause) e =
        let none = law.rows (inputs_of flat) (needs_of flat clocks g.until) (text_of g parts.Sensors) in
        let r = rows_refused cause (λ (same : cause ≡ sensor_faults.Memory). none (e ∙ ap (λ (x : SensorFault). Err x) same)) in
        inr (faults.Sensors r.0, (flat, clocks, has, r.0, e ∙ ap (λ (x : SensorFault). Err x) r.1, refl))

  pub rows_decided : Holds g stages.Clocks → IsDecided g stages.Rows
  rows_decided (flat, clocks, has) = rows_by flat clocks has (rows_for g flat clocks) refl

  pub graph_decided : Holds g stages.Clocks → IsDecided g stages.Graph
  graph_decided (flat, clocks, has) =
      graph_by flat clocks has (law.graphs flat clocks (is_flat ones g flat has.causal.flattened) has.only.are has.causal.acyclic)

  pub values_decided : Holds g stages.Clocks → IsDecided g stages.Values
  values_decided (flat, clocks, has) = ⊎_elim
      (λ many. inr (too_many (values_before g.until clocks), (flat, clocks, has, many, refl)))
      (λ few. inl (flat, clocks, has, few))
      (cases_lt MAX_VALUES (values_before g.until clocks))

  pub horizon_decided : g.until < 2 ^ 32 → Holds g stages.Cells → IsDecided g stages.Horizon
  horizon_decided small (plan, has) = ⊎_elim
      (λ (h : (horizon : Horizon) × IsHorizon plan horizon × (horizon.until ≡ g.until)).
      inl (plan, h.0, record { has_plan = has; is_horizon = h.1; until = h.2 }))
      (λ (l : (limit : Limit) × IsPastLimit plan g.until limit). inr (faults.Limit l.0, (plan, has, l.0, l.1, refl)))
      (law.horizons plan has.is_plan g.until small)

  module _ (plan : PlanView) (horizon : Horizon) (has : HasHorizon g plan horizon) where
    refused : (cause : ReplayFault) → IsReplayFault (bare plan horizon) (text_of g parts.Schedule) cause → IsDecided g stages.Schedule
    refused (causes.Syntax line) is =
        inr (faults.Schedule (bad_schedule.Syntax line), (plan, horizon, has, causes.Syntax line, is, bad_schedule.Syntax line, refl, refl))
    refused (causes.Illegal line rule) is =
        inr (faults.Schedule (bad_schedule.Illegal line rule), (plan, horizon, has, causes.Illegal line rule, is, bad_schedule.Illegal line rule, refl, refl))
    refused (causes.Unfinished task job) is =
        inr (
          faults.Schedule (bad_schedule.Unfinished (task_at plan.graph task.0).name job),
          (plan, horizon, has, causes.Unfinished task job, is, bad_schedule.Unfinished (task_at plan.graph task.0).name job, refl, refl),
        )
    refused causes.Memory is = absurd is.2

    run_by : IsWholeText (bare plan horizon) (text_of g parts.Schedule) ⊎ ((fault : ReplayFault) × IsReplayFault (bare plan horizon) (text_of g parts.Schedule) fault)
        → IsDecided g stages.Schedule
    run_by = ⊎_elim
        (λ (w : IsWholeText (bare plan horizon) (text_of g parts.Schedule)). inl (
          plan,
          horizon,
          record { has_horizon = has; events = w.0; listed = w.1; whole = record { legal = w.2; complete = w.3 } },
        ))
        (λ (f : (fault : ReplayFault) × IsReplayFault (bare plan horizon) (text_of g parts.Schedule) fault). refused f.0 f.1)

  pub schedule_decided : Holds g stages.Horizon → IsDecided g stages.Schedule
  schedule_decided (plan, horizon, has) = run_by plan horizon has (law.replays (bare plan horizon) (text_of g parts.Schedule))
