use Rattle.prl_clock.proofs.Wholes.{clocks_meet, meeting_are}
use Rattle.prl_clock.proofs.laws.clocks_meet_constraints.Goals as goal

pub returns : goal.returns
returns c = λ p flat clocks periods count. (meeting_are p flat clocks periods count, clocks_meet p flat clocks periods)
