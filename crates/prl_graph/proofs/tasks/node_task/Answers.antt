use Rattle.prl_graph.proofs.LeastDues.{has_clock}
use Rattle.prl_graph.proofs.Lists.{item_of}
use Rattle.prl_graph.proofs.Tasking.{node_made}
use Rattle.prl_graph.proofs.tasks.node_task.Goals as goal

pub application_clock-requires : goal.application_clock-requires
application_clock-requires c =
    has_clock c.args.flat.now c.args.clocks.now.of c.args.k c.index-apps-k.result c.apps-apps.ensures.well_formed c.requires.clocks
    (item_of c.apps-apps.result.now c.args.flat.now.apps c.args.k c.index-apps-k.result c.apps-apps.ensures.apps c.requires.within c.index-apps-k.is)

pub returns : goal.returns
returns c =
    node_made c.args.flat.now c.args.clocks.now.of c.args.k c.args.due c.index-apps-k.result c.in_ok-node_name.field-0 c.application_clock.result
    (item_of c.apps-apps.result.now c.args.flat.now.apps c.args.k c.index-apps-k.result c.apps-apps.ensures.apps c.requires.within c.index-apps-k.is)
    c.in_ok-node_name.ensures c.application_clock.ensures
