use Rattle.prl_base.proofs.Standard.{slice_index_or, sym, ◌∙◌, arith, slice_get-get_or}
use Rattle.prl_base.specs.declared.numbers.FlowNo.{FlowNo}
use Rattle.prl_evaluation.proofs.Groups.{filling_can_grow, filling_grown, filling_next, filling_skip}
use Rattle.prl_evaluation.proofs.wholes.fill_instance.Goals as goal
use Rattle.prl_evaluation.proofs.wholes.fill_instance.Goals.{then-count-n+in_ok-advance, else-count-n}

pub advance-requires-clause-ready : goal.advance-requires-clause-ready
advance-requires-clause-ready c =
    let x : FlowNo = slice_index_or c.args.group.now c.loop-flow.flow-index (record { 0 = 0 }) in
    filling_can_grow c.args.setting.now c.requires.set c.args.group.now c.args._number c.loop-flow.flows c.args.n c.loop-flow.flow-index c.loop-flow.invariant.1 c.requires.before
    x (slice_get-get_or c.args.group.now c.loop-flow.flow-index (record { 0 = 0 }) c.loop-flow-test.true) (sym c.count.ensures ∙ c.if-count-n.true)

pub loop-flow-preserved : goal.loop-flow-preserved
loop-flow-preserved c =
    let x : FlowNo = slice_index_or c.args.group.now c.loop-flow.flow-index (record { 0 = 0 }) in
    let found = slice_get-get_or c.args.group.now c.loop-flow.flow-index (record { 0 = 0 }) c.loop-flow-test.true in
    elim c.if-count-n.branch [
      | then-count-n+in_ok-advance w ↦ rw (w.flows-is, w.runs-is) (
        w.in_ok-advance.ensures.under_way,
        filling_grown c.args.setting.now c.requires.set c.args.group.now c.args._number c.loop-flow.flows c.args.n c.loop-flow.flow-index c.loop-flow.invariant.1 c.requires.before
            x found (sym c.count.ensures ∙ w.if-count-n.true) _ w.in_ok-advance.ensures.grown,
      )
      | else-count-n w ↦ rw (w.flows-is, w.runs-is) (
        c.loop-flow.invariant.0,
        filling_skip c.args.setting.now c.requires.set c.args.group.now c.args._number c.loop-flow.flows c.args.n c.loop-flow.flow-index c.loop-flow.invariant.1 c.requires.before
            x found (λ same. w.if-count-n.false (c.count.ensures ∙ same)),
      )
    ]

pub returns-clause-filling : goal.returns-clause-filling
returns-clause-filling c =
    filling_next c.args.setting.now c.requires.set c.args.group.now c.args._number c.loop-flow.flows c.args.n c.loop-flow.flow-index (omega arith) c.loop-flow.invariant.1
