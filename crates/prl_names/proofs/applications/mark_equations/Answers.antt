use Rattle.prl_ast.specs.Trees.{program_tree}
use Rattle.prl_names.proofs.Marking.{equations_step}
use Rattle.prl_names.proofs.applications.mark_equations.Goals as goal

pub loop-equation-preserved : goal.loop-equation-preserved
loop-equation-preserved c =
    equations_step (program_tree c.args.names.now) c.args.equations.now c.loop-equation.equation-index c.equation-item.result c.args.row.now c.loop-equation.row c.mark.new.row
    c.loop-equation-test.true c.equation-item.is c.loop-equation.invariant c.mark.ensures
