use Rattle.prl_rule.proofs.Exact.{are_halves, whole_again, halves_again}
use Rattle.prl_rule.proofs.laws.halves_are_exact.Goals as goal

pub returns : goal.returns
returns c = record { halves = are_halves; whole = whole_again; back = halves_again }
