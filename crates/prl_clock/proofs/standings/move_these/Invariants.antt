use Rattle.prl_clock.specs.Vocabulary.{IsMoved}
use Rattle.prl_clock.proofs.Loops.{HasChanged}
use Rattle.prl_clock.proofs.standings.move_these.Given as goal

abbrev pub invariant-loop-flow : goal.invariant-loop-flow
invariant-loop-flow l = HasChanged (IsMoved l.high l.low l.shift) l.flows l.initial.standings l.standings l.flow-index
