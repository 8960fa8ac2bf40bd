use Rattle.std.proofs.Common.{◌≡◌, ◌++◌}
use Rattle.prl_gen.specs.Vocabulary.{state_after, each, row}
use Rattle.prl_gen.specs.Lanes.{value_at}
use Rattle.prl_gen.proofs.sensors.push_rows_of_lane.Given as goal

abbrev pub invariant-loop-instance : goal.invariant-loop-instance
invariant-loop-instance l = (l.text.items ≡ l.initial.text.items ++ each (λ instance. row l.lane instance (value_at (state_after l.initial.draws.state instance))) l.instance) × (l.draws.state ≡ state_after l.initial.draws.state l.instance)
