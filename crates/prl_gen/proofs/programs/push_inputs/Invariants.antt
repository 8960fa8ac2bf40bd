use Rattle.std.proofs.Common.{◌≡◌, ◌++◌, get_or}
use Rattle.prl_gen.specs.Vocabulary.{each, input, semicolon_before}
use Rattle.prl_gen.proofs.programs.push_inputs.Given as goal

abbrev pub invariant-loop-lane : goal.invariant-loop-lane
invariant-loop-lane l = l.text.items ≡ l.initial.text.items ++ each (λ lane. semicolon_before lane ++ input lane (get_or l.periods lane 0)) l.lane
