use Rattle.std.proofs.Common.{sym, ◌∙◌}
use Rattle.prl_plantext.specs.code.Checks.{is_edge}
use Rattle.prl_plantext.proofs.Lists.{all_next}
use Rattle.prl_plantext.proofs.checking.are_edges.Goals as goal

pub loop-edge-preserved : goal.loop-edge-preserved
loop-edge-preserved c =
    all_next (is_edge c.args.hyper c.args.tasks.now) c.args.edges.now c.loop-edge.edge-index c.edge-item.result _ c.loop-edge-test.true c.edge-item.is
    (sym c.is_edge.ensures ∙ c.if-not-is_edge.false) c.loop-edge.invariant
