use Rattle.prl_base.proofs.Standard.{◌∙◌, length, refl, sym, slice_get_read, bytes_eq-Decides}
use Rattle.prl_ast.specs.declared.declarations.Node.{Node}
use Rattle.prl_spots.proofs.Named.{is_of}
use Rattle.prl_spots.proofs.counts.of_node.Goals as goal

pub loop-node-init : goal.loop-node-init
loop-node-init c = tt

pub returns-then-eq : goal.returns-then-eq
returns-then-eq c =
    is_of (λ (one : Node). one.name) (λ one. length one.ins) (λ one. length one.outs) c.args.nodes.now c.args.name.now c.node_counts.result c.loop-node.node-index c.node-item.result
    (slice_get_read c.args.nodes.now (length c.args.nodes.now) c.loop-node.node-index c.node-item.result refl c.loop-node-test.true c.node-item.is)
    (sym c.bytes.ensures.bytes ∙ (bytes_eq-Decides c.bytes.result.now c.args.name.now).0 (sym c.eq.ensures ∙ c.if-eq.true))
    c.node_counts.ensures.ins c.node_counts.ensures.outs

pub loop-node-preserved : goal.loop-node-preserved
loop-node-preserved c = tt
