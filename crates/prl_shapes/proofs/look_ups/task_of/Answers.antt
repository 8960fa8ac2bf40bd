use Rattle.std.proofs.lemmas.Option.{slice_get-get_or}
use Rattle.prl_plan.specs.Jobs.{no_task, task_at}
use Rattle.prl_shapes.proofs.look_ups.task_of.Goals as goal

pub returns-clause-fits : goal.returns-clause-fits
returns-clause-fits c =
    let graph = c.args.plan.now.graph in
    c.plan_is_one.ensures.graph.tasks c.args.i.0 (task_at graph c.args.i.0) (slice_get-get_or graph.tasks c.args.i.0 no_task c.requires)
