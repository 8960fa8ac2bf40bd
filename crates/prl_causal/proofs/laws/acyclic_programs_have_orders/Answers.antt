use Rattle.prl_causal.proofs.Cycles.{acyclic_order}
use Rattle.prl_causal.proofs.laws.acyclic_programs_have_orders.Goals as goal

pub returns : goal.returns
returns c = λ p flat none. acyclic_order p flat none
