use Rattle.std.proofs.Common.{arith}
use Rattle.prl_graph.specs.code.Steps.{none}
use Rattle.prl_graph.proofs.Lists.{same_length}
use Rattle.prl_graph.proofs.Walks.{few_steps, one_copy, one_operator, way_of}
use Rattle.prl_graph.proofs.edges.way_back.Goals as goal
use Rattle.prl_graph.proofs.edges.way_back.Goals.{in-Copy, in-Operator+in_ok-push-in-Operator}

pub loop-init : goal.loop-init
loop-init c = record {
  within = c.requires.within;
  steps = rw c.new-ops.ensures.items (none c.args.from.0);
}

pub returns-in-End : goal.returns-in-End
returns-in-End c =
    let way = way_of c.args.flat.now c.loop.counter c.args.from.0 c.loop.at.0 c.loop.ops.items c.loop.invariant.steps in
    record { leads = rw c.new.ensures way; produced = c.in-End.ensures }

pub loop-preserved : goal.loop-preserved
loop-preserved c = elim c.match-step_back.branch [
  | in-Copy w ↦
      let is = w.in-Copy.ensures.0 in
      rw (w.ops-is, w.at-is) (record {
        within = w.in-Copy.ensures.1;
        steps = one_copy c.args.flat.now c.loop.counter c.args.from.0 c.loop.at.0 c.loop.ops.items is.flow w.in-Copy.of c.loop.invariant.steps is.found is.is;
      })
  | in-Operator+in_ok-push-in-Operator w ↦
      let is = w.in-Operator.ensures.0 in
      rw (w.ops-is, w.at-is, w.in_ok-push-in-Operator.ensures.items) (record {
        within = w.in-Operator.ensures.1;
        steps = one_operator c.args.flat.now c.loop.counter c.args.from.0 c.loop.at.0 c.loop.ops.items is.flow w.in-Operator.op w.in-Operator.of c.loop.invariant.steps is.found is.is;
      })
]

pub unreachable-requires : goal.unreachable-requires
unreachable-requires c =
    let count = same_length c.flows-flows.result.now c.args.flat.now.flows c.flows-flows.ensures.flows in
    let few = few_steps c.args.flat.now c.requires.causal c.loop.counter c.args.from.0 c.loop.at.0 c.loop.ops.items c.loop.invariant.steps c.loop.invariant.within in
    omega arith
