use Rattle.std.proofs.Common.{◌≡◌, ◌++◌}
use Rattle.prl_gen.specs.Texts.{outputs}
use Rattle.prl_gen.proofs.programs.push_outputs.Given as goal

abbrev pub invariant-loop-lane : goal.invariant-loop-lane
invariant-loop-lane l = l.text.items ≡ l.initial.text.items ++ outputs l.lane
