use Rattle.prl_types.proofs.Walking.{arguments_end}
use Rattle.prl_types.proofs.rules.add_given.Goals as goal

pub returns-else-k-terms-clause-rules : goal.returns-else-k-terms-clause-rules
returns-else-k-terms-clause-rules c = arguments_end c.loop-k.rules.rules _ c.args.inputs.now c.args.at c.args.terms.now c.loop-k.k c.if-k-terms.false c.loop-k.invariant.1
