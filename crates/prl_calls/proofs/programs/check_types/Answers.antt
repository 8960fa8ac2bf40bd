use Rattle.prl_ast.specs.Trees.{program_tree}
use Rattle.prl_stages.specs.Given.{text_of}
use Rattle.prl_stages.specs.declared.faults.InputFile.TheVariants as parts
use Rattle.prl_calls.specs.Stops.{given_of}
use Rattle.prl_calls.proofs.programs.check_types.Goals as goal

pub check_names_types-requires : goal.check_names_types-requires
check_names_types-requires c =
    c.programs_are_in_range.ensures (text_of (given_of c.args.request.now) parts.Program) (program_tree c.args.program.now) c.requires.written
