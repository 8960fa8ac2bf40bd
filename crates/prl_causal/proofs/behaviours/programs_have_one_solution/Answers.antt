use Rattle.prl_causal.proofs.Ones.{one_solution}
use Rattle.prl_causal.proofs.behaviours.programs_have_one_solution.Goals as goal

pub returns : goal.returns
returns c = λ p clocks order bodies rows until flat agree is_order have typed has_rows.
    one_solution c.solutions_are_of_their_clocks.ensures p flat order is_order bodies rows until c.solutions_over_clocks_are_whole.ensures clocks agree have typed has_rows
