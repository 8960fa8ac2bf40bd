use Rattle.std.proofs.Common.{[], ◌∷◌}
use Rattle.prl_terms.proofs.RuleStates.{stays_refused}
use Rattle.prl_terms.proofs.progress.State.next.Goals as goal

pub returns-in-Refused : goal.returns-in-Refused
returns-in-Refused c = stays_refused c.args.count c.args.rules.now.list (c.args.rule ∷ []) (rw c.in-Refused.is at c.requires)
