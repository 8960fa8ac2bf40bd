use Rattle.prl_base.proofs.Standard.{add-one, get_or_default, slice_get, slice_index_or, sym}
use Rattle.prl_base.specs.declared.numbers.FlowNo.{FlowNo}
use Rattle.prl_body.proofs.Steps.{take_map_next}
use Rattle.prl_stages.specs.Vocabulary.{type_of_flow}
use Rattle.prl_calls.proofs.rows.input_types.Goals as goal

pub loop-flow-preserved : goal.loop-flow-preserved
loop-flow-preserved c =
    let k = c.loop-flow.flow-index in
    let ins = c.ins-flow-items.result.now in
    let x : FlowNo = slice_index_or ins k (record { 0 = 0 }) in
    let next = take_map_next (λ (flow : FlowNo). type_of_flow (slice_get c.args.flat.now.flows flow.0)) ins k x c.loop-flow-test.true
    (get_or_default ins k (record { 0 = 0 }) x c.loop-flow-test.true) in
    rw (add-one, c.in_ok-push.ensures.items, c.loop-flow.invariant, c.type_of.ensures, ← c.ins-flow-items.ensures) (sym next)
