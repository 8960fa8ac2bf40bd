use Rattle.prl_base.proofs.Standard.{◌≡◌, ◌∙◌, ◌++◌, ◌∷◌, [], List, add-one, ap, slice_index_or, sym, take, map, get_or_default, slice_get-get_or}
use Rattle.prl_base.specs.declared.numbers.FlowNo.{FlowNo}
use Rattle.prl_base.specs.declared.operators.Clock.{Clock}
use Rattle.prl_body.proofs.Steps.{take_map_next}
use Rattle.prl_flow.specs.Solutions.{clock_of}
use Rattle.prl_evaluation.proofs.by_date.clocks_of.Goals as goal

pub loop-flow-preserved : goal.loop-flow-preserved
loop-flow-preserved c =
    let x : FlowNo = slice_index_or c.args.flows.now c.loop-flow.flow-index (record { 0 = 0 }) in
    let found = slice_get-get_or c.args.flows.now c.loop-flow.flow-index (record { 0 = 0 }) c.loop-flow-test.true in
    let here : slice_index_or c.args.clocks.now x.0 (record { period = 0; start = 0 }) ≡ clock_of c.args.clocks.now x.0 =
    get_or_default c.args.clocks.now x.0 (record { period = 0; start = 0 }) (record { period = 1; start = 0 }) (c.requires c.loop-flow.flow-index x found) in
    let next = take_map_next (λ (y : FlowNo). clock_of c.args.clocks.now y.0) c.args.flows.now c.loop-flow.flow-index x c.loop-flow-test.true
    (get_or_default c.args.flows.now c.loop-flow.flow-index (record { 0 = 0 }) x c.loop-flow-test.true) in
    rw add-one (c.in_ok-push.ensures.items ∙ ap (λ (cs : List Clock). cs ++ slice_index_or c.args.clocks.now x.0 (record { period = 0; start = 0 }) ∷ []) c.loop-flow.invariant
    ∙ ap (λ (k : Clock). take c.loop-flow.flow-index (map (λ (y : FlowNo). clock_of c.args.clocks.now y.0) c.args.flows.now) ++ k ∷ []) here ∙ sym next)
