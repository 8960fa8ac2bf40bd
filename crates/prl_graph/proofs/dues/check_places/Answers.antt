use Rattle.std.proofs.Common.{arith, below_more}
use Rattle.prl_graph.specs.code.Marks.{IsPlaced}
use Rattle.prl_graph.proofs.DueFacts.{all_placed, non_task}
use Rattle.prl_graph.proofs.Lists.{same_length}
use Rattle.prl_graph.proofs.dues.check_places.Goals as goal

pub returns-then-is_misplaced-clause-fault : goal.returns-then-is_misplaced-clause-fault
returns-then-is_misplaced-clause-fault c = λ clocks.
    non_task c.args.flat.now c.loop-i.i c.in_ok-label.label (c.is_misplaced.ensures.yes c.if-is_misplaced.true) c.loop-i.invariant c.in_ok-label.ensures

pub loop-i-preserved : goal.loop-i-preserved
loop-i-preserved c = below_more (IsPlaced c.args.flat.now) c.loop-i.i c.loop-i.invariant (c.is_misplaced.ensures.no c.if-is_misplaced.false)

pub returns-clause-allowed : goal.returns-clause-allowed
returns-clause-allowed c =
    let count = same_length c.flows-flows.result.now c.args.flat.now.flows c.flows-flows.ensures.flows in
    all_placed c.args.flat.now c.loop-i.i (omega arith) c.loop-i.invariant
