use Rattle.std.proofs.Common.{◌≡◌, ◌-◌, length, drop}
use Rattle.prl_plan.specs.FirstReaders.{first_reader}
use Rattle.prl_words.proofs.prefixes.constants.Given as goal

abbrev pub invariant-loop-k : goal.invariant-loop-k
invariant-loop-k l = l.first ≡ first_reader (drop (length l.ops - l.k) l.ops)
