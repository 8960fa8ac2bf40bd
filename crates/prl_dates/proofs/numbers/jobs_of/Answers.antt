use Rattle.std.proofs.Common.{◌<◌, ◌≤◌, ◌/◌, sym, subst}
use Rattle.prl_plan.specs.declared.graphs.Task.{Task}
use Rattle.prl_plan.proofs.RoundPeriods.{task_is}
use Rattle.prl_dates.proofs.Indices.{some_jobs}
use Rattle.prl_dates.proofs.Readings.{task_read}
use Rattle.prl_dates.proofs.numbers.jobs_of.Goals as goal

pub nonzero_div-result : goal.nonzero_div-result
nonzero_div-result c =
    let graph = c.args.graph.now in
    subst (λ (t : Task). 0 < t.clock.period) (sym (task_read graph c.as_slice.result.now c.args.i.0 c.index-as_slice-i.result c.as_slice.ensures c.requires.task))
    (task_is graph c.requires.well c.args.i.0 c.requires.task).period.0

pub returns-clause-some : goal.returns-clause-some
returns-clause-some c =
    let graph = c.args.graph.now in
    subst (λ (t : Task). 1 ≤ graph.hyper / t.clock.period) (sym (task_read graph c.as_slice.result.now c.args.i.0 c.index-as_slice-i.result c.as_slice.ensures c.requires.task))
    (some_jobs graph c.requires.well c.args.i.0 c.requires.task)
