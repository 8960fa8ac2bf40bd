use Rattle.prl_ast.specs.Trees.{program_tree}
use Rattle.prl_syntax.proofs.WholeTexts.{given_fault, given_found, given_limit}
use Rattle.prl_syntax.proofs.parsing.parse.Goals as goal

pub returns-in-Ok-clause-found : goal.returns-in-Ok-clause-found
returns-in-Ok-clause-found c = given_found program_tree c.args.text.now (program_tree c.in-Ok.program) c.in-Ok.ensures c.limited.result c.limited.ensures

pub returns-in-Ok-clause-fault : goal.returns-in-Ok-clause-fault
returns-in-Ok-clause-fault c = given_limit program_tree c.args.text.now (program_tree c.in-Ok.program) c.in-Ok.ensures c.limited.result c.limited.ensures

pub returns-in-Err-clause-fault : goal.returns-in-Err-clause-fault
returns-in-Err-clause-fault c = given_fault c.args.text.now c.in-Err.fault c.of_text.result c.of_text.ensures c.in-Err.ensures
