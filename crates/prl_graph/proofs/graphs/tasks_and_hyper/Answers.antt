use Rattle.std.proofs.Common.{◌∙◌, ◌≤◌, ap, subst}
use Rattle.prl_graph.specs.Vocabulary.{task_count, jobs_within}
use Rattle.prl_graph.proofs.TaskFacts.{have_periods}
use Rattle.prl_graph.proofs.Whole.{past_jobs}
use Rattle.prl_graph.proofs.graphs.tasks_and_hyper.Goals as goal

pub period_jobs-jobs-requires-clause-periods : goal.period_jobs-jobs-requires-clause-periods
period_jobs-jobs-requires-clause-periods c =
    have_periods c.args.flat.now c.args.clocks.now.of (task_count c.args.flat.now) c.in_ok-tasks.tasks.items c.as_slice-2.result.now c.flows-flows.ensures.well_formed c.requires.clocks
    c.in_ok-tasks.ensures c.as_slice-2.ensures.value

pub returns-then-jobs-gt-MAX_PERIOD_JOBS-clause-checked : goal.returns-then-jobs-gt-MAX_PERIOD_JOBS-clause-checked
returns-then-jobs-gt-MAX_PERIOD_JOBS-clause-checked c =
    past_jobs c.args.flat.now c.args.clocks.now.of c.flows-flows.ensures.well_formed c.requires.clocks c.requires.small c.in_ok-made.made.1 c.in_ok-made.ensures.checked
    c.period_jobs-jobs.result c.in_ok-tasks.tasks.items c.limit.result c.limit.ensures
    c.in_ok-tasks.ensures (c.period_jobs-jobs.ensures ∙ ap (jobs_within c.in_ok-made.made.1) c.as_slice-2.ensures.value) c.if-jobs-gt-MAX_PERIOD_JOBS.true

pub returns-clause-few : goal.returns-clause-few
returns-clause-few c =
    subst (λ n. n ≤ 20000) (c.period_jobs-jobs.ensures ∙ ap (jobs_within c.in_ok-made.made.1) c.as_slice-2.ensures.value) c.if-jobs-gt-MAX_PERIOD_JOBS.false
