use Rattle.prl_ast.specs.Trees.{program_tree}
use Rattle.prl_types.proofs.Walking.{lefts_end}
use Rattle.prl_types.proofs.rules.add_lefts.Goals as goal

pub returns-else-k-flows-clause-rules : goal.returns-else-k-flows-clause-rules
returns-else-k-flows-clause-rules c = lefts_end (program_tree c.args.context.now) c.args.node c.loop-k.rules.rules _ c.args.lefts.now c.args.flows.now c.loop-k.k c.if-k-flows.false c.loop-k.invariant.1
