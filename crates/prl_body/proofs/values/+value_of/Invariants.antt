use Rattle.std.proofs.Common.{◌≡◌, drop}
use Rattle.prl_body.specs.Vocabulary.{expression_of, value}
use Rattle.prl_body.proofs.Series.{along}
use Rattle.prl_body.proofs.values.+value_of.Given as goal

abbrev pub invariant-loop-pair : goal.invariant-loop-pair
invariant-loop-pair l = along l.inputs l.registers l.value (drop l.pair-index l.pair-items) ≡ value l.inputs l.registers (expression_of l.code)
