use Rattle.prl_causal.specs.Conditions.{clocks_in}
use Rattle.prl_expand.proofs.laws.clocks_of_solutions_are_the_only.Goals as goal

pub returns : goal.returns
returns c = λ p clocks flat agree only. record {
  agree = agree;
  only = λ bodies rows until s h. only (clocks_in s) (c.solutions_are_of_their_clocks.ensures p bodies rows until s flat h).0;
}
