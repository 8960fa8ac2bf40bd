use Rattle.prl_names.proofs.Params.{params_step}
use Rattle.prl_names.proofs.tables.all_params.Goals as goal

pub loop-node-preserved : goal.loop-node-preserved
loop-node-preserved c =
    rw c.in_ok-push.ensures.items (params_step c.loop-node.tables.items c.args.nodes.now c.loop-node.node-index c.node-item.result c.in_ok-indices.field-0 c.as_slice.result.now
    c.loop-node-test.true c.node-item.is c.loop-node.invariant (rw c.as_slice.ensures.value c.in_ok-list.ensures) c.in_ok-indices.ensures)
