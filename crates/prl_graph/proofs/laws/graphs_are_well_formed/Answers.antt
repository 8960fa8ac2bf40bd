use Rattle.prl_graph.proofs.WellFormed.{well_formed}
use Rattle.prl_graph.proofs.laws.graphs_are_well_formed.Goals as goal

pub returns : goal.returns
returns c = λ p clocks flat are small causal graph of. well_formed p clocks flat are small graph of causal
