use Rattle.prl_graph.proofs.EdgeValues.{on_edge}
use Rattle.prl_graph.proofs.Ports.{port_within}
use Rattle.prl_graph.proofs.laws.edge_gives_operand.Goals as goal

pub returns : goal.returns
returns c = λ p clocks bodies rows until flows flat are solves e port edge at of n before.
    on_edge p clocks bodies rows until flows flat are solves port edge of n (port_within p flat e port at) before
