use Rattle.prl_base.proofs.Standard.{◌≡◌, map, range_with_len}
use Rattle.prl_expand.specs.Flats.{flow_no}
use Rattle.prl_expand.proofs.expanding.flow_numbers.Given as goal

abbrev pub invariant-loop-k : goal.invariant-loop-k
invariant-loop-k l = l.list.items ≡ map flow_no (range_with_len 0 l.k)
