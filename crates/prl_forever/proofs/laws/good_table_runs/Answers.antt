use Rattle.prl_plan.proofs.RoundPeriods.{task_is}
use Rattle.prl_forever.proofs.TableRuns.{table_is_timed, table_meets}
use Rattle.prl_forever.proofs.laws.good_table_runs.Goals as goal

pub returns : goal.returns
returns c = record {
  timed = λ plan is entries good h end. table_is_timed plan is entries good (λ entry. c.pieces_are_short.ensures.length plan is entry) h (λ i n job.
      end.above i n ((c.horizon_jobs_are_counted.ensures plan.graph h.until i n job.task (task_is plan.graph is.graph i job.task).period.0).1 job.job));
  met = λ plan is entries good h. table_meets plan is entries good (λ entry. c.pieces_are_short.ensures.length plan is entry) h;
}
