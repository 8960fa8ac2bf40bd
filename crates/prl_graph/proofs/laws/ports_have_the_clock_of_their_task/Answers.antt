use Rattle.prl_graph.proofs.WellFormed.{port_clock}
use Rattle.prl_graph.proofs.laws.ports_have_the_clock_of_their_task.Goals as goal

pub returns : goal.returns
returns c = λ p clocks flat are small graph of e port found. port_clock p clocks flat are small graph of e port found
