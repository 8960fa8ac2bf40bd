use Rattle.std.specs.Option.{option_copied}
use Rattle.prl_ast.specs.Trees.{program_tree}
use Rattle.prl_names.proofs.Right.{named_if_ok}
use Rattle.prl_names.proofs.checks.check_names.Goals as goal

pub returns-clause-named : goal.returns-clause-named
returns-clause-named c = named_if_ok (program_tree c.args.names.now) (option_copied c.args.main) c.checked.result c.checked.ensures
