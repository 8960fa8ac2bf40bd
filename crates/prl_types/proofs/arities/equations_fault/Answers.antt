use Rattle.std.proofs.Common.{◌∙◌, sym}
use Rattle.prl_ast.specs.Trees.{program_tree}
use Rattle.prl_types.proofs.Counting.{equation_some, equation_none}
use Rattle.prl_types.proofs.arities.equations_fault.Goals as goal

pub returns-in-Some : goal.returns-in-Some
returns-in-Some c =
    sym (equation_some (program_tree c.args.context.now) c.args.node c.args.equations.now c.loop-equation.equation-index c.equation-item.result c.in-Some.at c.loop-equation-test.true
    c.equation-item.is c.in-Some.ensures) ∙ c.loop-equation.invariant

pub loop-equation-preserved : goal.loop-equation-preserved
loop-equation-preserved c =
    sym (equation_none (program_tree c.args.context.now) c.args.node c.args.equations.now c.loop-equation.equation-index c.equation-item.result c.loop-equation-test.true
    c.equation-item.is c.in_default.ensures) ∙ c.loop-equation.invariant
