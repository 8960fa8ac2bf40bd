use Rattle.prl_base.proofs.Standard.{◌≡◌, ◌++◌, drop, map, filter, flat_map}
use Rattle.std.specs.Option.{is_some}
use Rattle.prl_ast.specs.Trees.{EquationTree, program_tree, equation_tree}
use Rattle.prl_ast.specs.declared.declarations.Placed.{Placed}
use Rattle.prl_names.specs.Vocabulary.{all_placed, param_at}
use Rattle.prl_names.proofs.repeats.definitions.Given as goal

abbrev pub invariant-loop-equation : goal.invariant-loop-equation
invariant-loop-equation l = all_placed l.list.items ++ filter (λ (p : Placed). is_some (param_at (program_tree l.names) l.k p.name)) (flat_map (λ (e : EquationTree). e.lefts) (map equation_tree (drop l.equation-index l.equation-items)))
    ≡ all_placed l.initial.list.items ++ filter (λ (p : Placed). is_some (param_at (program_tree l.names) l.k p.name)) (flat_map (λ (e : EquationTree). e.lefts) (map equation_tree l.equation-items))
