use Rattle.std.proofs.Common.{◌≡◌, take, map}
use Rattle.prl_body.specs.Vocabulary.{next_expressions, value}
use Rattle.prl_body.proofs.machines.write_registers.Given as goal

abbrev pub invariant-loop-k : goal.invariant-loop-k
invariant-loop-k l = take l.k l.next ≡ take l.k (map (value l.inputs l.registers) (next_expressions l.body))
