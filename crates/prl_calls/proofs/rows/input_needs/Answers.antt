use Rattle.prl_calls.proofs.Inputs.{input_flow}
use Rattle.prl_calls.proofs.rows.input_needs.Goals as goal

pub bounds-of-flow : goal.bounds-of-flow
bounds-of-flow c =
    rw (c.as_slice-of.ensures, c.requires.count)
    (input_flow c.args.flat.now c.flows-flows.ensures.well_formed c.ins-flow-items.result.now c.ins-flow-items.ensures c.loop-flow.flow-index _
    c.loop-flow-test.true)
