use Rattle.std.proofs.Common.{◌<◌, ◌∙◌, ap, length, arith}
use Rattle.prl_clock.proofs.Fine.{fine_none}
use Rattle.prl_clock.proofs.Taking.{stopped_below, stop_of, if_err_same, reached_below, reached_end}
use Rattle.prl_clock.proofs.constraints.solve.Goals as goal

pub loop-x-init : goal.loop-x-init
loop-x-init c = record {
  len = c.in_ok-standings.ensures.count ∙ ap length c.flows-count.ensures.flows;
  fine = fine_none _ c.in_ok-standings.ensures.solved;
  solved = c.in_ok-standings.ensures.solved;
}

pub loop-x-preserved : goal.loop-x-preserved
loop-x-preserved c = reached_below c.args.flat.now c.loop-x.x _ (c.in_ok-constrain_flow.ensures.reached _ c.loop-x.invariant)

pub returns-in_err-constrain_flow-clause-stopped : goal.returns-in_err-constrain_flow-clause-stopped
returns-in_err-constrain_flow-clause-stopped c =
    let below : c.loop-x.x < length c.args.flat.now.flows = let e = ap length c.flows-count.ensures.flows in let h = c.loop-x-test.true in omega (arith, e, h) in
    if_err_same c.from_residual-in_err-constrain_flow.result _ c.in_err-constrain_flow.field-0.0 c.from_residual-in_err-constrain_flow.ensures.1
    (stop_of _ _ c.in_err-constrain_flow.field-0.0
    (stopped_below c.args.flat.now c.loop-x.x _ below (c.in_err-constrain_flow.ensures.stopped _ c.loop-x.invariant)))

pub returns-clause-reached : goal.returns-clause-reached
returns-clause-reached c =
    reached_end c.args.flat.now c.loop-x.x c.loop-x.standings (omega (arith, ap length c.flows-count.ensures.flows, c.loop-x.auto.x-end, c.loop-x-test.false)) c.loop-x.invariant
