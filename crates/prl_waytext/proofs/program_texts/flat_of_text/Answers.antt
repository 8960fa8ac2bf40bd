use Rattle.prl_ast.specs.Trees.{program_tree}
use Rattle.prl_waytext.proofs.program_texts.flat_of_text.Goals as goal

pub check_names_types-requires : goal.check_names_types-requires
check_names_types-requires c = c.programs_are_in_range.ensures c.args.text.now (program_tree c.in-Some.program) (rw c.in-Some.is at c.in_ok-program.ensures)
