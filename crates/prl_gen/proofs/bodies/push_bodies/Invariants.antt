use Rattle.std.proofs.Common.{◌≡◌, ◌++◌, get_or}
use Rattle.prl_gen.specs.Vocabulary.{each, body}
use Rattle.prl_gen.proofs.bodies.push_bodies.Given as goal

abbrev pub invariant-loop-lane : goal.invariant-loop-lane
invariant-loop-lane l = l.text.items ≡ l.initial.text.items ++ each (λ lane. body lane (get_or l.factors lane 0)) l.lane
