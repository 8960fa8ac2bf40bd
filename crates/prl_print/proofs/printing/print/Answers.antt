use Rattle.prl_ast.specs.Trees.{program_tree}
use Rattle.prl_print.proofs.Printable.{result_reads_back}
use Rattle.prl_print.proofs.printing.print.Goals as goal

pub returns-clause-same : goal.returns-clause-same
returns-clause-same c = result_reads_back (program_tree c.args.program.now) c.printed.result c.printed.ensures
