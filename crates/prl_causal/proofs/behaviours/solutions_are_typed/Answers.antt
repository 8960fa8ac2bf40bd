use Rattle.prl_causal.proofs.Ones.{solution_typed}
use Rattle.prl_causal.proofs.behaviours.solutions_are_typed.Goals as goal

pub returns : goal.returns
returns c = λ p order bodies rows until s flat is_order have typed typed_rows h.
    solution_typed c.solutions_are_of_their_clocks.ensures p flat order is_order bodies rows until have typed typed_rows s h
