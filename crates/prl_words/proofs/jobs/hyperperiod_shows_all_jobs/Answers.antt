use Rattle.prl_plan.proofs.DatePeriods.{families_agree, family_below}
use Rattle.prl_words.proofs.jobs.hyperperiod_shows_all_jobs.Goals as goal

pub returns : goal.returns
returns c = record { agree = families_agree; below = family_below }
