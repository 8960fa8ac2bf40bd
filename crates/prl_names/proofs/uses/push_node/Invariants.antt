use Rattle.prl_base.proofs.Standard.{◌≡◌, ◌++◌, drop, map, flat_map}
use Rattle.prl_ast.specs.Trees.{EquationTree, equation_tree}
use Rattle.prl_names.specs.Vocabulary.{names_in, applied_names}
use Rattle.prl_names.proofs.uses.push_node.Given as goal

abbrev pub invariant-loop-equation : goal.invariant-loop-equation
invariant-loop-equation l = names_in l.list.items ++ flat_map (λ (e : EquationTree). applied_names e.right) (map equation_tree (drop l.equation-index l.equation-items))
    ≡ names_in l.initial.list.items ++ flat_map (λ (e : EquationTree). applied_names e.right) (map equation_tree l.equation-items)
