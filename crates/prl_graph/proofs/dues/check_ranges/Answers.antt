use Rattle.std.proofs.Common.{arith, below_more, subst, sym}
use Rattle.prl_base.specs.declared.operators.Clock.{Clock}
use Rattle.prl_graph.specs.Vocabulary.{IsDueOutOfRange, IsRanged}
use Rattle.prl_graph.proofs.DueFacts.{all_ranged, out_of_range}
use Rattle.prl_graph.proofs.Lists.{same_length}
use Rattle.prl_graph.proofs.dues.check_ranges.Goals as goal

pub returns-in-Some-clause-fault : goal.returns-in-Some-clause-fault
returns-in-Some-clause-fault c = (
  c.requires.allowed,
  subst (λ (k : Clock). IsDueOutOfRange c.args.flat.now c.args.clocks.now.of c.in_ok-flow-in-Some.flow c.in-Some.due k.period) (sym c.clock_at-period.ensures)
      (out_of_range c.args.flat.now c.args.clocks.now.of c.loop-i.i c.in-Some.due c.in_ok-flow-in-Some.flow c.in-Some.ensures c.loop-i.invariant c.in_ok-flow-in-Some.ensures),
)

pub loop-i-preserved : goal.loop-i-preserved
loop-i-preserved c = below_more (IsRanged c.args.flat.now c.args.clocks.now.of) c.loop-i.i c.loop-i.invariant c.in-None.ensures

pub returns-clause-within : goal.returns-clause-within
returns-clause-within c =
    let count = same_length c.flows-flows.result.now c.args.flat.now.flows c.flows-flows.ensures.flows in
    all_ranged c.args.flat.now c.args.clocks.now.of c.loop-i.i (omega arith) c.loop-i.invariant
