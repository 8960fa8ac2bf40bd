use Rattle.std.proofs.Common.{arith, ap, refl, sym, ◌∙◌, ◌+◌, ◌/◌}
use Rattle.prl_graph.proofs.Counts.{few_more, jobs_all, jobs_fit, jobs_more}
use Rattle.prl_graph.proofs.Lists.{item_of}
use Rattle.prl_graph.proofs.graphs.period_jobs.Goals as goal

pub overflow_add-jobs : goal.overflow_add-jobs
overflow_add-jobs c =
    let tasks = c.args.tasks.now in
    let k = c.loop-task.task-index in
    let found = item_of tasks tasks k c.task-item.result refl c.loop-task-test.true c.task-item.is in
    let few = c.requires.few in
    let fits = jobs_fit c.loop-task.jobs k c.args.hyper c.task-item.result.clock.period c.loop-task.invariant.few (omega arith) c.requires.hyper (c.requires.periods k c.task-item.result found) in
    omega arith

pub nonzero_div-jobs : goal.nonzero_div-jobs
nonzero_div-jobs c =
    let k = c.loop-task.task-index in
    c.requires.periods k c.task-item.result (item_of c.args.tasks.now c.args.tasks.now k c.task-item.result refl c.loop-task-test.true c.task-item.is)

pub loop-task-preserved : goal.loop-task-preserved
loop-task-preserved c =
    let tasks = c.args.tasks.now in
    let k = c.loop-task.task-index in
    let found = item_of tasks tasks k c.task-item.result refl c.loop-task-test.true c.task-item.is in
    record {
      is = ap (λ n. n + c.args.hyper / c.task-item.result.clock.period) c.loop-task.invariant.is ∙ sym (jobs_more c.args.hyper tasks k c.task-item.result found);
      few = few_more c.loop-task.jobs k c.args.hyper c.task-item.result.clock.period c.loop-task.invariant.few (c.requires.periods k c.task-item.result found);
    }

pub returns : goal.returns
returns c = c.loop-task.invariant.is ∙ jobs_all c.args.hyper c.args.tasks.now c.loop-task.task-index c.loop-task-test.false
