use Rattle.std.proofs.Common.{length, sym, subst}
use Rattle.prl_cores.specs.Processors.{IsOfTasks}
use Rattle.prl_plan.specs.declared.graphs.TaskGraph.{TaskGraph}
use Rattle.prl_executions.proofs.placed.make_placement.Goals as goal

pub cores_refusal-requires : goal.cores_refusal-requires
cores_refusal-requires c =
    subst (λ (graph : TaskGraph). IsOfTasks (length graph.tasks) c.in-Err.fault) (sym c.graph.ensures.graph) c.in-Err.ensures.task
