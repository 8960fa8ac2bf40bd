use Rattle.std.proofs.Common.{◌/◌, ap, sym, subst, arith}
use Rattle.prl_base.specs.declared.operators.Clock.{Clock}
use Rattle.prl_plan.proofs.RoundPeriods.{task_is}
use Rattle.prl_buffers.specs.code.Turns.{IsSteady, IsTurn}
use Rattle.prl_buffers.proofs.EdgeNumbers.{edge_is, is_steady}
use Rattle.prl_buffers.proofs.edges.turn_on.Goals as goal

pub clock_of-requires : goal.clock_of-requires
clock_of-requires c = (let r = c.requires in (edge_is c.args.graph.now r.0 c.args.edge.now c.args.word.now r.2 r.1 r.3).to)

pub nonzero_div-jobs : goal.nonzero_div-jobs
nonzero_div-jobs c =
    let r = c.requires in
    let same = ap (λ (k : Clock). k.period) c.clock_of.ensures in
    omega (arith, (task_is c.args.graph.now r.2.well c.args.edge.now.to.0 (edge_is c.args.graph.now r.0 c.args.edge.now c.args.word.now r.2 r.1 r.3).to).period.0, same)

pub turn_of-requires : goal.turn_of-requires
turn_of-requires c =
    let r = c.requires in
    subst (λ (k : Clock). IsSteady c.args.word.now (c.args.graph.now.hyper / k.period)) (sym c.clock_of.ensures)
    (is_steady c.args.graph.now r.0 c.args.edge.now c.args.word.now r.2 r.1 r.3)

pub returns : goal.returns
returns c = subst (λ (k : Clock). IsTurn c.args.word.now (c.args.graph.now.hyper / k.period) c.in_ok-turn.turn.gaps c.in_ok-turn.turn.last) c.clock_of.ensures c.in_ok-turn.ensures
