use Rattle.prl_clock.proofs.Starting.{alone_solved}
use Rattle.prl_clock.proofs.standings.Standings.alone.Goals as goal

pub returns-clause-solved : goal.returns-clause-solved
returns-clause-solved c = alone_solved c.loop-x.of.items c.loop-x.invariant.alone
