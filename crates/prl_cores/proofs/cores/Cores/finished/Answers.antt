use Rattle.std.proofs.Common.{MatchResult, subst}
use Rattle.prl_plan.specs.Rules.{IsComplete, IsFirstUnfinished}
use Rattle.prl_core.specs.Cores.{CoreView, constants}
use Rattle.prl_cores.proofs.cores.Cores.finished.Goals as goal

pub returns : goal.returns
returns c =
    subst (λ (v : CoreView). MatchResult c.finished.result (λ _. IsComplete (constants v) v.state) (λ left. IsFirstUnfinished (constants v) v.state left.task.0 left.job))
    c.self.view_is c.finished.ensures
