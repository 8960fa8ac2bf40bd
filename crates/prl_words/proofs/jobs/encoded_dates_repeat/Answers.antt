use Rattle.prl_plan.proofs.DatePeriods.{least_repeat, greatest_repeat}
use Rattle.prl_words.proofs.jobs.encoded_dates_repeat.Goals as goal

pub returns : goal.returns
returns c = record { releases = least_repeat; deadlines = greatest_repeat }
