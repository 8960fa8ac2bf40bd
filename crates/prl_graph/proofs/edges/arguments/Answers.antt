use Rattle.std.proofs.Common.{refl}
use Rattle.prl_graph.proofs.Edging.{few_arguments}
use Rattle.prl_graph.proofs.Lists.{item_of}
use Rattle.prl_graph.proofs.edges.arguments.Goals as goal

pub returns : goal.returns
returns c =
    let found = item_of c.apps-apps.result.now c.args.flat.now.apps c.args.k c.index-apps-k.result c.apps-apps.ensures.apps c.requires.within c.index-apps-k.is in
    rw c.as_slice.ensures (record {
      are = record { app = c.index-apps-k.result; found = found; are = refl };
      few = few_arguments c.args.flat.now c.args.k 512 c.index-apps-k.result found c.requires.few_edges;
      within = (c.apps-apps.ensures.well_formed.apps c.args.k c.index-apps-k.result found).args;
    })
