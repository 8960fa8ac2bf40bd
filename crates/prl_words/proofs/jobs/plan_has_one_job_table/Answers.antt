use Rattle.prl_plan.proofs.TableMade.{table_made, one_table}
use Rattle.prl_words.proofs.jobs.plan_has_one_job_table.Goals as goal

pub returns : goal.returns
returns c = record { made = table_made; one = one_table }
