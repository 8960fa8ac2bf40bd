use Rattle.std.proofs.Common.{◌≡◌}
use Rattle.prl_gen.specs.Vocabulary.{state_after, factors_from}
use Rattle.prl_gen.proofs.lanes.draw_factors.Given as goal

abbrev pub invariant-loop-lane : goal.invariant-loop-lane
invariant-loop-lane l = (l.factors.items ≡ factors_from l.initial.draws.state l._lane) × (l.draws.state ≡ state_after l.initial.draws.state l._lane)
