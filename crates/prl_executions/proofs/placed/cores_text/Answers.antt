use Rattle.prl_base.proofs.Standard.{◌++◌, [], ◌∷◌, inl, inr, refl, subst, Some, ◌≡◌, arith, err_from_is_err_and}
use Rattle.prl_stages.specs.Vocabulary.{front, ran}
use Rattle.prl_stages.specs.Stages.{Holds}
use Rattle.prl_plan.specs.declared.graphs.TaskGraph.{TaskGraph}
use Rattle.prl_stages.specs.Placed.{RefusesPlaced}
use Rattle.prl_stages.specs.Replayed.{schedule_refusal}
use Rattle.prl_stages.specs.declared.faults.Fault.TheVariants as faults
use Rattle.prl_stages.specs.declared.stages.Stop.TheVariants as stops
use Rattle.prl_executions.proofs.Schedules.{bare_fault_on, refused_cause}
use Rattle.prl_stages.specs.declared.stages.Stage.TheVariants as stages
use Rattle.prl_calls.specs.Stops.{given_of}
use Rattle.prl_calls.proofs.Stops.{both_hold, stops_first, stops_rest}
use Rattle.prl_executions.proofs.Preparing.{cores_text_is, has_horizon_there, horizon_there, plan_there}
use Rattle.prl_executions.proofs.placed.cores_text.Goals as goal

pub returns-in_err-ready : goal.returns-in_err-ready
returns-in_err-ready c =
    let p = err_from_is_err_and c.from_residual.result c.from_residual.ensures.1 in
    rw (p.1, p.2) (stops_first (given_of c.args.request.now) (front ++ ran) (stages.Cores ∷ stages.Placed ∷ []) c.in_err-ready.field-0.0 c.in_err-ready.ensures)

pub returns-in_err-spread : goal.returns-in_err-spread
returns-in_err-spread c =
    let p = err_from_is_err_and c.from_residual-in_err-spread.result c.from_residual-in_err-spread.ensures.1 in
    rw (p.1, p.2)
    (stops_rest (given_of c.args.request.now) (front ++ ran) (stages.Cores ∷ stages.Placed ∷ []) c.in_err-spread.field-0.0 c.in_ok-ready.ensures.1
    (inl c.in_err-spread.ensures))

pub placed_trace-requires-clause-horizon : goal.placed_trace-requires-clause-horizon
placed_trace-requires-clause-horizon c = horizon_there (given_of c.args.request.now) c.in_ok-ready.ready c.in_ok-ready.ensures.0

pub trace_text-requires-clause-outputs : goal.trace_text-requires-clause-outputs
trace_text-requires-clause-outputs c =
    let is = horizon_there (given_of c.args.request.now) c.in_ok-ready.ready c.in_ok-ready.ensures.0 in
    let small = is.until in
    (c.in_ok-ready.ready.horizon.until, omega (arith, small), c.in-Ok.ensures.found.traced.outputs)

pub returns-in-Ok : goal.returns-in-Ok
returns-in-Ok c =
    let g = given_of c.args.request.now in
    let r = c.in_ok-ready.ready in
    let is = c.in_ok-ready.ensures.0 in
    let has = c.in_ok-spread.ensures.0.1 in
    let placement = c.in_ok-spread.spread.placement in
    let found = c.in-Ok.ensures.found in
    let horizon = horizon_there g r is in
    let gated = c.spread_list_is_gated.ensures r.plan r.horizon placement (plan_there g r is) horizon has.spread found.events found.traced.is.run.legal in
    let holds : Holds g stages.Placed = (
      r.plan,
      placement,
      r.horizon,
      record {
        has_horizon = has_horizon_there g r is;
        has_placement = has;
        events = found.events;
        listed = found.listed;
        legal = found.traced.is.run.legal;
        complete = found.traced.is.run.complete;
      },
    ) in (
      cores_text_is g r is found.events c.in-Ok.trace.reads c.in-Ok.trace.outputs found.traced.outputs _
          (c.in_ok-trace_text-in-Ok.ensures r.horizon.until found.traced.outputs) placement has found.listed gated found.traced.is,
      both_hold g (front ++ ran) (stages.Cores ∷ stages.Placed ∷ []) c.in_ok-ready.ensures.1 (c.in_ok-spread.ensures.1, (holds, tt)),
    )

pub returns-in-Some : goal.returns-in-Some
returns-in-Some c =
    let g = given_of c.args.request.now in
    let r = c.in_ok-ready.ready in
    let fault = c.in-Err.fault in
    let refusal = c.in-Some.refusal in
    let told : schedule_refusal r.plan.graph fault ≡ Some refusal =
    subst (λ (graph : TaskGraph). schedule_refusal graph fault ≡ Some refusal) c.graph.ensures.graph c.in-Some.ensures in
    let some = refused_cause r.plan.graph fault refusal told in
    let fails = c.in-Err.ensures.fault in
    let refuses : RefusesPlaced g (faults.Schedule refusal) = record {
      plan = r.plan;
      placement = c.in_ok-spread.spread.placement;
      horizon = r.horizon;
      has_horizon = has_horizon_there g r c.in_ok-ready.ensures.0;
      has_placement = c.in_ok-spread.ensures.0.1;
      listed = fails.named some;
      cause = fault;
      is_cause = bare_fault_on r.plan r.horizon r.bodies r.sensors c.args.request.now.texts.schedule.items c.in_ok-spread.spread.placement fault (fails.cause some);
      refusal = refusal;
      told = told;
      is = refl;
    } in
    stops_rest g (front ++ ran) (stages.Cores ∷ stages.Placed ∷ []) (stops.Refused stages.Placed (faults.Schedule refusal)) c.in_ok-ready.ensures.1
    (inr (c.in_ok-spread.ensures.1, inl (refl, refuses)))
