-- What a run needs, from what the texts mean.
use Rattle.std.proofs.Common.{◌≡◌, ◌∙◌, ◌++◌, ℕ, List, Some, Ok, length, refl, sym, ap, subst}
use Rattle.prl_body.specs.declared.bodies.CheckedBody.{CheckedBody}
use Rattle.prl_flow.specs.Vocabulary.{Rows, AreUpTo, actuator_text}
use Rattle.prl_flow.specs.declared.programs.OutFlow.{OutFlow}
use Rattle.prl_plan.specs.Vocabulary.{PlanView, IsPlan, IsHorizon, Placement, alone, constants_of, IsComplete, IsGated, ExecState, after_events, opening}
use Rattle.prl_plan.specs.declared.events.Event.{Event}
use Rattle.prl_plan.specs.declared.horizons.Horizon.{Horizon}
use Rattle.prl_board.specs.Closings.{ClosedView, IsClosed, IsLastState}
use Rattle.prl_exec.specs.Runs.{HasEnded, HasStopped}
use Rattle.prl_exec.specs.declared.runs.Stopped.{Stopped}
use Rattle.prl_core.specs.Cores.{opened, opened_on}
use Rattle.prl_replay.specs.Replays.{AreFlowsBelow, IsTrace, after_all}
use Rattle.prl_replay.specs.Shown.{AreShown, core_in}
use Rattle.prl_rule.specs.Known.{known, run_of}
use Rattle.prl_rule.specs.declared.views.Constants.{Constants}
use Rattle.prl_rule.specs.declared.views.Gate.{Gate}
use Rattle.prl_values.specs.Fitting.{HaveTaskBodies, HaveTypedRows}
use Rattle.prl_rule.specs.declared.views.Gate.TheVariants as gates
use Rattle.prl_stages.specs.declared.faults.InputFile.TheVariants as files
use Rattle.prl_stages.specs.Vocabulary.{HasOverrun, HasRun, IsCycleText, list_of, Given, text_of, HasPlan, HasPlacement, IsCoresText, Lists, Execution, IsReplayText, HasHorizon, meant_flows}
use Rattle.prl_stages.specs.declared.ran.Ran.{Ran}
use Rattle.prl_stages.specs.declared.ran.Ran.TheVariants as runs
use Rattle.prl_schedules.specs.Vocabulary.{text_of_reads, schedule_of, task_names}
use Rattle.prl_track.specs.declared.seen.Seen.{Seen}
use Rattle.prl_tables.specs.Vocabulary.{IsGood, entries_of}
use Rattle.prl_overlaps.specs.declared.entries.Entry.{Entry}
use Rattle.prl_executions.specs.declared.ready.Ready.{Ready}
use Rattle.prl_executions.specs.Ready.{IsDrivenTextOf, IsReady, IsTextOf, ready_of}
use Rattle.prl_table.specs.Noted.{AreAllNoted}
use Rattle.prl_tables.specs.Tables.{last_unit}

abbrev parts : PlanView → List CheckedBody → Rows → Horizon → Ready
parts plan bodies rows horizon = record { plan = plan; bodies = bodies; sensors = rows; horizon = horizon }

-- what has the parts of an execution is what it needs
pub same_ready : (g : Given) (r : Ready) (e : Execution g) → e.plan ≡ r.plan → e.meaning.bodies ≡ r.bodies → e.meaning.rows ≡ r.sensors → e.horizon ≡ r.horizon → r ≡ ready_of g e
same_ready g r e p b s h =
    ap (λ (x : PlanView). parts x r.bodies r.sensors r.horizon) (sym p)
    ∙ ap (λ (x : List CheckedBody). parts e.plan x r.sensors r.horizon) (sym b)
    ∙ ap (λ (x : Rows). parts e.plan e.meaning.bodies x r.horizon) (sym s)
    ∙ ap (λ (x : Horizon). parts e.plan e.meaning.bodies e.meaning.rows x) (sym h)

-- the laws of the crates below
pub record ShownLaws : Type 0 where
  pub flows : (k : Constants) (closed : ClosedView) (s : ExecState) (outs : List OutFlow) → closed.constants ≡ Some k → IsPlan k.plan → IsHorizon k.plan k.horizon
      → HaveTaskBodies k.plan.graph k.bodies → HaveTypedRows k.plan.graph k.horizon.until k.sensors → IsClosed k closed.words closed.seats
      → IsLastState k closed.words closed.seats s → AreShown closed k.plan.graph outs → AreFlowsBelow (core_in k s) (length k.plan.graph.tasks) outs
  pub up_to : (k : Constants) (closed : ClosedView) (s : ExecState) (outs : List OutFlow) → closed.constants ≡ Some k → IsPlan k.plan → IsHorizon k.plan k.horizon
      → HaveTaskBodies k.plan.graph k.bodies → HaveTypedRows k.plan.graph k.horizon.until k.sensors → IsClosed k closed.words closed.seats
      → IsLastState k closed.words closed.seats s → AreShown closed k.plan.graph outs → IsComplete (run_of k) s → AreUpTo k.horizon.until outs

abbrev pub known_of : Ready → Gate → Constants
known_of r gate = known r.plan r.horizon gate r.sensors r.bodies

module _ (g : Given) (r : Ready) (ready : IsReady g r) where
  pub plan_there : IsPlan r.plan
  plan_there = subst (λ (x : Ready). IsPlan x.plan) (sym ready.made) ready.execution.has_horizon.has_plan.is_plan

  pub horizon_there : IsHorizon r.plan r.horizon
  horizon_there = subst (λ (x : Ready). IsHorizon x.plan x.horizon) (sym ready.made) ready.execution.has_horizon.is_horizon

  pub has_plan_there : HasPlan g r.plan
  has_plan_there = subst (λ (x : Ready). HasPlan g x.plan) (sym ready.made) ready.execution.has_horizon.has_plan

  pub has_horizon_there : HasHorizon g r.plan r.horizon
  has_horizon_there = subst (λ (x : Ready). HasHorizon g x.plan x.horizon) (sym ready.made) ready.execution.has_horizon

  until_is : r.horizon.until ≡ g.until
  until_is = subst (λ (x : Ready). x.horizon.until ≡ g.until) (sym ready.made) ready.execution.has_horizon.until

  module _ (law : ShownLaws) (gate : Gate) (closed : ClosedView) (its : closed.constants ≡ Some (known_of r gate)) (ended : HasEnded closed)
      (is_closed : IsClosed (known_of r gate) closed.words closed.seats) (outs : List OutFlow) (shown : AreShown closed r.plan.graph outs) where
    -- what the closed board shows is up to the date
    pub shown_up_to : AreUpTo r.horizon.until outs
    shown_up_to =
        let last = is_closed.last in
        law.up_to (known_of r gate) closed last.0 outs its plan_there horizon_there ready.serve ready.rows is_closed last.1 shown (ended (known_of r gate) last.0 its last.1)

    -- and main's outputs
    pub shown_meant : outs ≡ meant_flows g ready.execution.meaning
    shown_meant =
        let last = is_closed.last in
        ready.outs (alone r.plan) last.0 outs (law.flows (known_of r gate) closed last.0 outs its plan_there horizon_there ready.serve ready.rows is_closed last.1 shown) shown_up_to

    pub board_has_run : HasRun g ready.execution gate closed
    board_has_run = record {
      constants = subst (λ (x : Ready). closed.constants ≡ Some (known_of x gate)) ready.made its;
      is = subst (λ (x : Ready). IsClosed (known_of x gate) closed.words closed.seats) ready.made is_closed;
      ended = ended;
      shown = subst (λ (x : Ready). AreShown closed x.plan.graph (meant_flows g ready.execution.meaning)) ready.made
          (subst (AreShown closed r.plan.graph) shown_meant shown);
    }

    pub text_of_is : (text : List ℕ) → text ≡ actuator_text r.horizon.until outs → IsTextOf g r gate text (runs.Ended closed)
    text_of_is text written = (
      ready.execution,
      ready.made,
      record {
        closed = closed;
        ended = refl;
        run = board_has_run;
        written = written ∙ ap (λ (until : ℕ). actuator_text until outs) until_is ∙ ap (actuator_text g.until) shown_meant;
      },
    )

  module _ (events : List Event) (reads : List Seen) (outs : List OutFlow) (up_to : AreUpTo r.horizon.until outs) (text : List ℕ)
      (written : text ≡ text_of_reads (task_names r.plan) reads ++ actuator_text r.horizon.until outs) where
    text_is : text ≡ text_of_reads (task_names ready.execution.plan) reads ++ actuator_text g.until outs
    text_is =
        subst (λ (x : Ready). text ≡ text_of_reads (task_names x.plan) reads ++ actuator_text x.horizon.until outs) ready.made written
        ∙ ap (λ (until : ℕ). text_of_reads (task_names ready.execution.plan) reads ++ actuator_text until outs) ready.execution.has_horizon.until

    -- the text of a replay
    pub replay_text_is : schedule_of (task_names r.plan) (text_of g files.Schedule) ≡ Ok events → IsTrace (opened r.plan r.bodies r.sensors r.horizon) events reads outs
        → IsReplayText g text
    replay_text_is listed trace = record {
      execution = ready.execution;
      events = events;
      listed = subst (λ (x : Ready). schedule_of (task_names x.plan) (text_of g files.Schedule) ≡ Ok events) ready.made listed;
      reads = reads;
      outs = outs;
      trace = subst (λ (x : Ready). IsTrace (opened x.plan x.bodies x.sensors x.horizon) events reads outs) ready.made trace;
      outputs = ready.outs (alone r.plan) (after_all (opened r.plan r.bodies r.sensors r.horizon) events).state outs trace.flows up_to;
      written = text_is;
    }

    -- the same on several processors
    pub cores_text_is : (placement : Placement) → HasPlacement g r.plan placement → Lists g.listed g r.plan placement r.horizon events
        → IsGated (constants_of r.plan r.horizon) (opening (constants_of r.plan r.horizon)) events
        → IsTrace (opened_on r.plan placement r.bodies r.sensors r.horizon) events reads outs → IsCoresText g text
    cores_text_is placement placed listed gated trace = record {
      execution = ready.execution;
      placement = placement;
      has_placement = subst (λ (x : Ready). HasPlacement g x.plan placement) ready.made placed;
      events = events;
      listed = subst (λ (x : Ready). Lists g.listed g x.plan placement x.horizon events) ready.made listed;
      gated = subst (λ (x : Ready). IsGated (constants_of x.plan x.horizon) (opening (constants_of x.plan x.horizon)) events) ready.made gated;
      reads = reads;
      outs = outs;
      trace = subst (λ (x : Ready). IsTrace (opened_on x.plan placement x.bodies x.sensors x.horizon) events reads outs) ready.made trace;
      outputs = ready.outs placement (after_all (opened_on r.plan placement r.bodies r.sensors r.horizon) events).state outs trace.flows up_to;
      written = text_is;
    }

  pub overrun_is : (gate : Gate) (stopped : Stopped) → HasStopped (known_of r gate) stopped → HasOverrun g gate r.plan stopped
  overrun_is gate stopped has = record {
    execution = ready.execution;
    plan_is = sym (ap (λ (x : Ready). x.plan) ready.made);
    run = subst (λ (x : Ready). HasStopped (known_of x gate) stopped) ready.made has;
  }

-- the law of the lists of tables
pub record ListLaws : Type 0 where
  pub gated : (plan : PlanView) (horizon : Horizon) → IsPlan plan → IsHorizon plan horizon → (entries : List Entry) → IsGood plan entries
      → IsGated (constants_of plan horizon) (opening (constants_of plan horizon)) (list_of plan horizon entries)
  pub complete : (plan : PlanView) (horizon : Horizon) → IsPlan plan → IsHorizon plan horizon → (entries : List Entry) → IsGood plan entries
      → IsComplete (constants_of plan horizon) (after_events (constants_of plan horizon) (opening (constants_of plan horizon)) (list_of plan horizon entries))

same_board : (a b : ClosedView) → runs.Ended a ≡ runs.Ended b → a ≡ b
same_board a b same = cc

-- a run by the good table that the text tells
pub cycle_text_is : ListLaws → (g : Given) (r : Ready) (entries : List Entry) → entries_of r.plan.graph.hyper (text_of g files.Table) ≡ Ok entries
    → IsGood r.plan entries → (text : List ℕ) (done : Ran) → IsDrivenTextOf g r entries text done → IsCycleText g text done
cycle_text_is law g r entries read good text done is =
    let e = is.of.0 in
    let made : r ≡ ready_of g e = is.of.1 in
    let run = is.of.2 in
    let plans : r.plan ≡ e.plan = ap (λ (x : Ready). x.plan) made in
    let good : IsGood e.plan entries = subst (λ (p : PlanView). IsGood p entries) plans good in
    let read : entries_of e.plan.graph.hyper (text_of g files.Table) ≡ Ok entries =
    subst (λ (p : PlanView). entries_of p.graph.hyper (text_of g files.Table) ≡ Ok entries) plans read in
    let plan = e.has_horizon.has_plan in
    record {
      execution = e;
      entries = entries;
      has_table = record { has_plan = plan; read = read; good = good };
      gated = law.gated e.plan e.horizon plan.is_plan e.has_horizon.is_horizon entries good;
      complete = law.complete e.plan e.horizon plan.is_plan e.has_horizon.is_horizon entries good;
      closed = run.closed;
      ticks = is.ticks;
      driven = is.driven ∙ ap (λ (board : ClosedView). runs.Driven (board, is.ticks)) (same_board is.closed run.closed run.ended);
      run = run.run;
      by = subst (λ (x : Ready). AreAllNoted (constants_of x.plan x.horizon) (last_unit x.plan.graph entries) is.ticks) made is.by;
      written = run.written;
    }
