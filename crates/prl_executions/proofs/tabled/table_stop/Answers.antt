use Rattle.std.proofs.Common.{length, sym, subst}
use Rattle.prl_plan.specs.declared.graphs.TaskGraph.{TaskGraph}
use Rattle.prl_executions.specs.code.Faults.{AreOfTask}
use Rattle.prl_calls.specs.Stops.{given_of}
use Rattle.prl_executions.proofs.TableFaults.{of_task, table_stops}
use Rattle.prl_executions.proofs.tabled.table_stop.Goals as goal

pub table_refusal-requires : goal.table_refusal-requires
table_refusal-requires c =
    subst (λ (graph : TaskGraph). AreOfTask (length graph.tasks) c.args.fault) (sym c.graph.ensures.graph)
    (of_task c.args.plan.now c.args.request.now.texts.table.items c.args.fault c.requires.cause)

pub returns-in-Some : goal.returns-in-Some
returns-in-Some c =
    table_stops (given_of c.args.request.now) c.args.plan.now c.args.fault c.in-Some.refusal c.requires.plan c.requires.cause
    (rw c.graph.ensures.graph at c.in-Some.ensures)
