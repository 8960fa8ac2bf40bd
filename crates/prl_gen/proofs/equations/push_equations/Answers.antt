use Rattle.prl_gen.specs.Texts.{equation}
use Rattle.prl_gen.proofs.Steps.{joined_more}
use Rattle.prl_gen.proofs.equations.push_equations.Goals as goal

pub loop-lane-preserved : goal.loop-lane-preserved
loop-lane-preserved c = joined_more _ _ _ (equation c.args.periods.now) c.loop-lane.lane c.loop-lane.invariant c.in_ok-push_equation.ensures
