use Rattle.prl_clock.specs.Vocabulary.{constraints_below, IsReached}
use Rattle.prl_clock.proofs.constraints.solve.Given as goal

abbrev pub invariant-loop-x : goal.invariant-loop-x
invariant-loop-x l = IsReached l.flat (constraints_below l.flat l.x) l.standings
