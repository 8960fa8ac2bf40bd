use Rattle.std.proofs.Common.{◌≡◌, ◌≢◌, ℕ, List, length, Some, Ok, refl, sym, subst, arith, ◌++◌, [], ◌∷◌, inl}
use Rattle.std.proofs.lemmas.Result.{err_from_is_err_and}
use Rattle.prl_stages.specs.Stages.{Holds}
use Rattle.prl_stages.specs.Vocabulary.{front, ran}
use Rattle.prl_stages.specs.declared.faults.Fault.TheVariants as faults
use Rattle.prl_stages.specs.declared.stages.Stage.TheVariants as stages
use Rattle.prl_stages.specs.declared.stages.Stop.TheVariants as stops
use Rattle.prl_calls.proofs.Stops.{both_hold, stops_first, stops_rest}
use Rattle.prl_plan.specs.declared.graphs.TaskGraph.{TaskGraph}
use Rattle.prl_schedules.specs.Vocabulary.{schedule_of, task_names}
use Rattle.prl_replay.specs.declared.faults.ReplayFault.TheVariants as causes
use Rattle.prl_replay.specs.Replays.{IsReplayFault}
use Rattle.prl_core.specs.Cores.{opened}
use Rattle.prl_stages.specs.Replayed.{schedule_refusal}
use Rattle.prl_calls.specs.Stops.{given_of}
use Rattle.prl_executions.specs.code.Faults.{IsOfTask}
use Rattle.prl_executions.proofs.Preparing.{has_horizon_there, horizon_there, replay_text_is}
use Rattle.prl_executions.proofs.Schedules.{bare_fault, of_task, refused_cause}
use Rattle.prl_executions.proofs.replayed.replayed_text.Goals as goal

pub replay-requires-clause-horizon : goal.replay-requires-clause-horizon
replay-requires-clause-horizon c = horizon_there (given_of c.args.request.now) c.in_ok-ready.ready c.in_ok-ready.ensures.0

pub replay-requires-clause-bodies : goal.replay-requires-clause-bodies
replay-requires-clause-bodies c = c.in_ok-ready.ensures.0.serve

pub replay-requires-clause-rows : goal.replay-requires-clause-rows
replay-requires-clause-rows c = c.in_ok-ready.ensures.0.rows

pub trace_text-requires-clause-reads : goal.trace_text-requires-clause-reads
trace_text-requires-clause-reads c = c.in-Ok.ensures.reads

pub trace_text-requires-clause-outputs : goal.trace_text-requires-clause-outputs
trace_text-requires-clause-outputs c =
    let is = horizon_there (given_of c.args.request.now) c.in_ok-ready.ready c.in_ok-ready.ensures.0 in
    let small = is.until in
    (c.in_ok-ready.ready.horizon.until, omega (arith, small), c.in-Ok.ensures.outputs)

pub schedule_refusal-requires : goal.schedule_refusal-requires
schedule_refusal-requires c =
    let r = c.in_ok-ready.ready in
    subst (λ (graph : TaskGraph). IsOfTask (length graph.tasks) c.in-Err.fault) (sym c.graph.ensures.graph)
    (of_task r.plan r.horizon r.bodies r.sensors c.deref.result.now c.in-Err.fault c.in-Err.ensures.run)

pub returns-in-Ok : goal.returns-in-Ok
returns-in-Ok c =
    let g = given_of c.args.request.now in
    let r = c.in_ok-ready.ready in
    let run = c.in-Ok.ensures.run in
    let trace = c.in-Ok.trace in
    let listed = subst (λ (text : List ℕ). schedule_of (task_names r.plan) text ≡ Ok run.0) c.deref.ensures.value run.1 in
    let holds : Holds g stages.Schedule = (
      r.plan,
      r.horizon,
      record {
        has_horizon = has_horizon_there g r c.in_ok-ready.ensures.0;
        events = run.0;
        listed = listed;
        whole = record { legal = run.2.run.legal; complete = run.2.run.complete };
      },
    ) in (
      replay_text_is g r c.in_ok-ready.ensures.0 run.0 trace.reads trace.outputs c.in-Ok.ensures.outputs _
          (c.in_ok-trace_text-in-Ok.ensures r.horizon.until c.in-Ok.ensures.outputs) listed run.2,
      both_hold g (front ++ ran) (stages.Schedule ∷ []) c.in_ok-ready.ensures.1 (holds, tt),
    )

pub returns-in-Some : goal.returns-in-Some
returns-in-Some c =
    let r = c.in_ok-ready.ready in
    let fault = c.in-Err.fault in
    let refusal = c.in-Some.refusal in
    let told : schedule_refusal r.plan.graph fault ≡ Some refusal =
    subst (λ (graph : TaskGraph). schedule_refusal graph fault ≡ Some refusal) c.graph.ensures.graph c.in-Some.ensures in
    let some : fault ≢ causes.Memory = refused_cause r.plan.graph fault refusal told in
    let cause = subst (λ (text : List ℕ). IsReplayFault (opened r.plan r.bodies r.sensors r.horizon) text fault) c.deref.ensures.value (c.in-Err.ensures.run some) in
    stops_rest (given_of c.args.request.now) (front ++ ran) (stages.Schedule ∷ []) (stops.Refused stages.Schedule (faults.Schedule refusal)) c.in_ok-ready.ensures.1 (inl (
      refl,
      (
        r.plan,
        r.horizon,
        has_horizon_there (given_of c.args.request.now) r c.in_ok-ready.ensures.0,
        fault,
        bare_fault r.plan r.horizon r.bodies r.sensors c.args.request.now.texts.schedule.items fault cause,
        refusal,
        told,
        refl,
      ),
    ))

pub returns-in_err-ready : goal.returns-in_err-ready
returns-in_err-ready c =
    let p = err_from_is_err_and c.from_residual.result c.from_residual.ensures.1 in
    rw (p.1, p.2) (stops_first (given_of c.args.request.now) (front ++ ran) (stages.Schedule ∷ []) c.in_err-ready.field-0.0 c.in_err-ready.ensures)
