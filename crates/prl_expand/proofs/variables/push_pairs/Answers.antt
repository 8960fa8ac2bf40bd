use Rattle.prl_expand.proofs.TermLists.{pairs_end}
use Rattle.prl_expand.proofs.variables.push_pairs.Goals as goal

pub returns-else-k-terms : goal.returns-else-k-terms
returns-else-k-terms c = pairs_end _ _ c.args.lefts.now c.args.terms.now c.loop-k.k c.if-k-terms.false c.loop-k.invariant
