use Rattle.std.proofs.Common.{get_or}
use Rattle.prl_base.specs.declared.numbers.FlowNo.{FlowNo}
use Rattle.prl_graph.proofs.DueFacts.{one_marked}
use Rattle.prl_graph.proofs.Lists.{element_of}
use Rattle.prl_graph.proofs.dues.output_marks.Goals as goal

pub loop-flow-preserved : goal.loop-flow-preserved
loop-flow-preserved c =
    let none : FlowNo = record { 0 = 0 } in
    let n = c.loop-flow.flow-index in
    let found = element_of c.outs-flow-items.result.now c.args.flat.now.outs n none c.outs-flow-items.ensures.outs c.loop-flow-test.true in
    one_marked c.args.flat.now n c.loop-flow.marks (get_or c.outs-flow-items.result.now n none) c.loop-flow.invariant found
    (c.outs-flow-items.ensures.well_formed.outs n (get_or c.outs-flow-items.result.now n none) found)
