-- Whole lists of events are there, and are replayed: the laws of the crates below that show it, as one record for the laws of this crate.
use Rattle.std.specs.Prelude.{◌≡◌, ◌<◌, ◌≤◌, ◌↔◌, ℕ, List, Some, Ok, length, map, slice_index}
use Rattle.prl_base.specs.Values.{type_of}
use Rattle.prl_base.specs.declared.numbers.FlowNo.{FlowNo}
use Rattle.prl_base.specs.declared.values.Value.{Value}
use Rattle.prl_ast.specs.declared.declarations.Import.{Import}
use Rattle.prl_body.specs.declared.bodies.CheckedBody.{CheckedBody}
use Rattle.prl_body.specs.Checks.{body_tree, checked}
use Rattle.prl_body.specs.Texts.{TextTree}
use Rattle.prl_body.specs.Used.{HaveBodiesOf}
use Rattle.prl_track.specs.declared.seen.Seen.{Seen}
use Rattle.prl_flow.specs.declared.programs.OutFlow.{OutFlow}
use Rattle.prl_flow.specs.Programs.{FlatProgram, IsFlat}
use Rattle.prl_flow.specs.Rows.{Rows}
use Rattle.prl_flow.specs.Uses.{HasNoCycle, IsOrder}
use Rattle.prl_core.specs.Cores.{opened_on}
use Rattle.prl_plan.specs.declared.events.Event.{Event}
use Rattle.prl_plan.specs.declared.graphs.TaskGraph.{TaskGraph}
use Rattle.prl_plan.specs.declared.horizons.Horizon.{Horizon}
use Rattle.prl_plan.specs.Facts.{HasPlanFacts}
use Rattle.prl_plan.specs.Horizons.{IsHorizon, Placement, constants_of, constants_on}
use Rattle.prl_plan.specs.Jobs.{IsHorizonJob, job_count, task_at}
use Rattle.prl_plan.specs.Plans.{IsPlan, PlanView, edge_at}
use Rattle.prl_plan.specs.Rules.{IsComplete, IsGated, IsLegal}
use Rattle.prl_plan.specs.Runs.{ExecState, RunConstants, after_events, opening}
use Rattle.prl_plan.specs.Spread.{IsSpread}
use Rattle.prl_schedules.specs.Dispatches.{IsDispatched}
use Rattle.prl_replay.specs.Replays.{IsTrace}
use Rattle.prl_overlaps.specs.declared.entries.Entry.{Entry}
use Rattle.prl_tables.specs.Tables.{IsGood}
use Rattle.prl_values.specs.Fitting.{HaveTaskBodies, HaveTypedRows}
use Rattle.prl_values.specs.JobValues.{AreJobValues, JobValues, value_on}
use Rattle.prl_stages.specs.Ran.{list_of}

-- of orders, bodies, lists of events, boards and tables
pub record WholeLaws : Type 0 where
  pub orders : (p : FlatProgram) → IsFlat p → HasNoCycle p → (order : List FlowNo) × IsOrder p order
  pub used : (imports : List Import) (used : List (List ℕ)) (texts : List TextTree) (bodies : List CheckedBody)
      → checked imports used texts ≡ Ok (map body_tree bodies) → HaveBodiesOf imports used bodies
  pub facts : (plan : PlanView) (horizon : Horizon) → IsPlan plan → IsHorizon plan horizon → HasPlanFacts (constants_of plan horizon)
  pub gated : (c : RunConstants) → HasPlanFacts c → (events : List Event) → IsLegal c (opening c) events → IsGated c (opening c) events
  pub few : (c : RunConstants) → HasPlanFacts c → (events : List Event) → IsGated c (opening c) events
      → (i : ℕ) → i < c.tasks → slice_index (after_events c (opening c) events).ended i ≤ c.jobs i
  pub counted : (graph : TaskGraph) (until i n : ℕ) → i < length graph.tasks → 0 < (task_at graph i).clock.period
      → IsHorizonJob graph until i n ↔ (n < job_count (task_at graph i) until)
  pub spread_facts : (plan : PlanView) (horizon : Horizon) (placement : Placement) → IsPlan plan → IsHorizon plan horizon → IsSpread plan placement
      → HasPlanFacts (constants_on plan placement horizon)
  pub spread_gated : (plan : PlanView) (horizon : Horizon) (placement : Placement) → IsPlan plan → IsHorizon plan horizon → IsSpread plan placement
      → (events : List Event) → IsLegal (constants_on plan placement horizon) (opening (constants_on plan placement horizon)) events
      → IsGated (constants_of plan horizon) (opening (constants_of plan horizon)) events
  pub replayed : (plan : PlanView) (placement : Placement) (bodies : List CheckedBody) (rows : Rows) (horizon : Horizon) → IsPlan plan → IsHorizon plan horizon
      → HasPlanFacts (constants_on plan placement horizon) → HaveTaskBodies plan.graph bodies → HaveTypedRows plan.graph horizon.until rows
      → (events : List Event) → IsLegal (constants_on plan placement horizon) (opening (constants_on plan placement horizon)) events
      → IsComplete (constants_on plan placement horizon) (after_events (constants_on plan placement horizon) (opening (constants_on plan placement horizon)) events)
      → (reads : List Seen) × (outs : List OutFlow) × IsTrace (opened_on plan placement bodies rows horizon) events reads outs
  pub dispatched : (plan : PlanView) (horizon : Horizon) → IsPlan plan → IsHorizon plan horizon
      → (events : List Event) × IsDispatched (constants_of plan horizon) (opening (constants_of plan horizon)) events
  pub legal : (c : RunConstants) → HasPlanFacts c → (s : ExecState) (events : List Event) → IsDispatched c s events → IsLegal c s events
  pub complete : (c : RunConstants) (s : ExecState) (events : List Event) → IsDispatched c s events → IsComplete c (after_events c s events)
  pub typed : (plan : PlanView) → IsPlan plan → (bodies : List CheckedBody) (rows : Rows) (until : ℕ) (v : JobValues) → HaveTaskBodies plan.graph bodies
      → HaveTypedRows plan.graph until rows → AreJobValues plan.graph bodies rows until v → (e n : ℕ) → e < length plan.graph.edges
      → IsHorizonJob plan.graph until (edge_at plan.graph e).to.0 n
      → (value : Value) × (value_on v (edge_at plan.graph e) n ≡ Some value) × (type_of value ≡ (edge_at plan.graph e).ty)
  pub table_gated : (plan : PlanView) (horizon : Horizon) → IsPlan plan → IsHorizon plan horizon → (entries : List Entry) → IsGood plan entries
      → IsGated (constants_of plan horizon) (opening (constants_of plan horizon)) (list_of plan horizon entries)
  pub table_complete : (plan : PlanView) (horizon : Horizon) → IsPlan plan → IsHorizon plan horizon → (entries : List Entry) → IsGood plan entries
      → IsComplete (constants_of plan horizon) (after_events (constants_of plan horizon) (opening (constants_of plan horizon)) (list_of plan horizon entries))
