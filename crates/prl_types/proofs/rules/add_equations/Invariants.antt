use Rattle.std.proofs.Common.{◌≡◌, ◌++◌, map, drop}
use Rattle.prl_ast.specs.Trees.{program_tree, equation_tree}
use Rattle.prl_types.specs.Rules.{equations_rules}
use Rattle.prl_types.proofs.rules.add_equations.Given as goal

abbrev pub invariant-loop-equation : goal.invariant-loop-equation
invariant-loop-equation l = (l.rules.count ≡ l.initial.rules.count) × (l.rules.rules ++ equations_rules (program_tree l.context) l.node (map equation_tree (drop l.equation-index l.equations)) ≡ l.initial.rules.rules ++ equations_rules (program_tree l.context) l.node (map equation_tree l.equations))
