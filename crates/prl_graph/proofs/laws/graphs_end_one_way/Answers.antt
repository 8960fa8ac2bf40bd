use Rattle.prl_graph.proofs.OneGraph.{not_both, one_fault, one_graph}
use Rattle.prl_graph.proofs.SomeGraph.{some_outcome}
use Rattle.prl_graph.proofs.laws.graphs_end_one_way.Goals as goal

pub returns : goal.returns
returns c = record {
  end = λ p clocks flat are causal. some_outcome p clocks flat are causal;
  one_graph = λ p clocks a b one other. one_graph p clocks a b one other;
  one_fault = λ p clocks a b told_a told_b one other. one_fault p clocks a b told_a told_b one other;
  not_both = λ p clocks graph fault told of is. not_both p clocks graph fault told of is;
}
