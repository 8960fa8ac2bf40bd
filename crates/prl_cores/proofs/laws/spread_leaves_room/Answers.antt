use Rattle.prl_plan.specs.Dates.{encoded_release}
use Rattle.prl_cores.proofs.SpreadDates.{spread_room, spread_fits}
use Rattle.prl_cores.proofs.laws.spread_leaves_room.Goals as goal

pub returns : goal.returns
returns c = λ plan placement is spread. record {
  room = spread_room plan is placement.processors (encoded_release plan.graph placement.windows) spread.releases;
  apart = λ before after precedes apart. spread.releases.releases.across before after precedes apart;
  fits = spread_fits plan is placement.processors (encoded_release plan.graph placement.windows) spread.releases;
}
