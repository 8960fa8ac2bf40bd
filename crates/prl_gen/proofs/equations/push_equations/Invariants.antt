use Rattle.std.proofs.Common.{◌≡◌, ◌++◌}
use Rattle.prl_gen.specs.Vocabulary.{each, equation}
use Rattle.prl_gen.proofs.equations.push_equations.Given as goal

abbrev pub invariant-loop-lane : goal.invariant-loop-lane
invariant-loop-lane l = l.text.items ≡ l.initial.text.items ++ each (equation l.periods) l.lane
