use Rattle.std.proofs.Common.{◌≡◌, ◌++◌, get_or}
use Rattle.prl_gen.specs.Vocabulary.{state_of_lane, each, rows_of_lane}
use Rattle.prl_gen.proofs.sensors.push_sensors.Given as goal

abbrev pub invariant-loop-lane : goal.invariant-loop-lane
invariant-loop-lane l = (l.text.items ≡ l.initial.text.items ++ each (λ lane. rows_of_lane lane (get_or l.periods lane 0) (state_of_lane l.periods l.initial.draws.state lane)) l.lane) × (l.draws.state ≡ state_of_lane l.periods l.initial.draws.state l.lane)
