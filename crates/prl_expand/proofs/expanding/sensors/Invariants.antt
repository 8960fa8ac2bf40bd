use Rattle.prl_base.proofs.Standard.{◌≡◌, map, range_with_len}
use Rattle.prl_expand.specs.Vocabulary.{sensors_from, def_of}
use Rattle.prl_expand.proofs.expanding.sensors.Given as goal

abbrev pub invariant-loop-k : goal.invariant-loop-k
invariant-loop-k l = map def_of l.defs.items ≡ sensors_from 0 (range_with_len 0 l.k)
