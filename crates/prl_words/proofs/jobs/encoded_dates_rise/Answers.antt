use Rattle.prl_plan.proofs.DatesRise.{releases_rise, deadlines_rise}
use Rattle.prl_plan.specs.Dates.{encoded_release}
use Rattle.prl_words.proofs.jobs.encoded_dates_rise.Goals as goal

pub returns : goal.returns
returns c = record {
  releases = λ graph good windows dates. releases_rise graph good (encoded_release graph windows) dates.releases;
  deadlines = deadlines_rise;
}
