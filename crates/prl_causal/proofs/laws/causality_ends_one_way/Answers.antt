use Rattle.prl_causal.proofs.Cycles.{acyclic_or_label, no_label, one_label}
use Rattle.prl_causal.proofs.laws.causality_ends_one_way.Goals as goal

pub returns-clause-end : goal.returns-clause-end
returns-clause-end c = λ p flat. acyclic_or_label p flat

pub returns-clause-one_label : goal.returns-clause-one_label
returns-clause-one_label c = λ p a b one other. one_label p a b one other

pub returns-clause-not_both : goal.returns-clause-not_both
returns-clause-not_both c = λ p label none is. no_label p label none is
