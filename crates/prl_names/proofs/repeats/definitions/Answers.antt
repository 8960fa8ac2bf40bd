use Rattle.std.proofs.Common.{◌∙◌}
use Rattle.std.specs.Option.{is_some}
use Rattle.prl_ast.specs.Trees.{program_tree}
use Rattle.prl_ast.specs.declared.declarations.Placed.{Placed}
use Rattle.prl_names.specs.Vocabulary.{param_at, all_placed}
use Rattle.prl_names.proofs.Repeating.{defined_from}
use Rattle.prl_names.proofs.repeats.definitions.Goals as goal

pub loop-equation-preserved : goal.loop-equation-preserved
loop-equation-preserved c =
    let test = λ (p : Placed). is_some (param_at (program_tree c.args.names.now) c.args.k p.name) in
    let es = c.as_slice-equation-items.result.now in
    rw (c.in_ok-push_defined.ensures, c.as_slice-in-loop-equation.ensures)
    (defined_from test es c.loop-equation.equation-index c.equation-item.result (all_placed c.loop-equation.list.items) c.loop-equation-test.true c.equation-item.is
    ∙ c.loop-equation.invariant)
