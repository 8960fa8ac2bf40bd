use Rattle.prl_graph.proofs.JobValues.{job_values_are, node_registers, port_value}
use Rattle.prl_graph.proofs.laws.solutions_give_job_values.Goals as goal

pub returns : goal.returns
returns c = record {
  given = λ p clocks bodies rows until flows flat are small have typed solves g of well. job_values_are p clocks bodies rows until flows flat are small solves g of well have typed;
  operands = λ p clocks bodies rows until flows flat are small solves g of e port edge at found n before. port_value p clocks bodies rows until flows flat are small solves g of e port edge at found n before;
  registers = λ p clocks bodies rows until flows flat are small solves g of k n app body found before. node_registers p clocks bodies rows until flows flat are small solves g of k n app body found before;
}
