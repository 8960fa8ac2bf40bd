use Rattle.std.proofs.Common.{◌≡◌, take, map}
use Rattle.prl_body.specs.Vocabulary.{value_expressions, value}
use Rattle.prl_body.proofs.machines.write_outputs.Given as goal

abbrev pub invariant-loop-k : goal.invariant-loop-k
invariant-loop-k l = take l.k l.outputs ≡ take l.k (map (value l.inputs l.registers) (value_expressions l.body))
