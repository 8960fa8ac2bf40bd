use Rattle.prl_rule.proofs.Exact.{packed, unpacked}
use Rattle.prl_rule.proofs.laws.words_are_exact.Goals as goal

pub returns : goal.returns
returns c = record { unpacked = unpacked; packed = packed }
