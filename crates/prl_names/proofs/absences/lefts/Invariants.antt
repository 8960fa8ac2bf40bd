use Rattle.prl_base.proofs.Standard.{◌≡◌, ◌++◌, drop, map, flat_map}
use Rattle.prl_ast.specs.Trees.{EquationTree, equation_tree}
use Rattle.prl_names.specs.Mentions.{all_placed}
use Rattle.prl_names.proofs.absences.lefts.Given as goal

abbrev pub invariant-loop-equation : goal.invariant-loop-equation
invariant-loop-equation l = all_placed l.list.items ++ flat_map (λ (e : EquationTree). e.lefts) (map equation_tree (drop l.equation-index l.equation-items))
    ≡ flat_map (λ (e : EquationTree). e.lefts) (map equation_tree l.equation-items)
