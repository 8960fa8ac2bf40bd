use Rattle.prl_clock.specs.Vocabulary.{IsTimed}
use Rattle.prl_clock.proofs.Loops.{HasChanged}
use Rattle.prl_clock.proofs.standings.time_these.Given as goal

abbrev pub invariant-loop-flow : goal.invariant-loop-flow
invariant-loop-flow l = HasChanged (IsTimed l.root l.clock) l.flows l.initial.standings l.standings l.flow-index
