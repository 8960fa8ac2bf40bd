use Rattle.std.proofs.Common.{◌≡◌}
use Rattle.prl_gen.specs.Vocabulary.{state_after, ArePositive, periods_from}
use Rattle.prl_gen.proofs.lanes.draw_periods.Given as goal

abbrev pub invariant-loop-lane : goal.invariant-loop-lane
invariant-loop-lane l = (l.periods.items ≡ periods_from l.initial.draws.state l._lane) × ArePositive l.periods.items × (l.draws.state ≡ state_after l.initial.draws.state l._lane)
