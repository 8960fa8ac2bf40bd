use Rattle.prl_ast.specs.Trees.{program_tree}
use Rattle.prl_types.proofs.Fitting.{rules_fit}
use Rattle.prl_types.proofs.typing.types.Goals as goal

pub types-requires : goal.types-requires
types-requires c = rw (c.in-Ok.ensures.count, c.in-Ok.ensures.rules) (rules_fit (program_tree c.args.context.now))
