use Rattle.std.proofs.Common.{◌≡◌, ◌++◌}
use Rattle.prl_gen.specs.Texts.{numbered_lines}
use Rattle.prl_gen.proofs.numbered.push_lines.Given as goal

abbrev pub invariant-loop-lane : goal.invariant-loop-lane
invariant-loop-lane l = l.text.items ≡ l.initial.text.items ++ numbered_lines l.before l.after l.lane
