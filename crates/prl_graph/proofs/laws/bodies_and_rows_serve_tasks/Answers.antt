use Rattle.prl_graph.proofs.Fitting.{task_bodies, task_rows}
use Rattle.prl_graph.proofs.laws.bodies_and_rows_serve_tasks.Goals as goal

pub returns : goal.returns
returns c = record {
  bodies = λ p clocks bodies graph flat of have all. task_bodies p clocks flat graph of bodies have all;
  rows = λ p clocks rows until graph flat of has typed. task_rows p clocks flat graph of rows until has typed;
}
