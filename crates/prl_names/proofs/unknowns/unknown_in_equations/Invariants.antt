use Rattle.std.proofs.Common.{◌≡◌, drop, map}
use Rattle.prl_ast.specs.Trees.{program_tree, equation_tree}
use Rattle.prl_names.specs.Unknowns.{unknown_equations}
use Rattle.prl_names.proofs.unknowns.unknown_in_equations.Given as goal

abbrev pub invariant-loop-equation : goal.invariant-loop-equation
invariant-loop-equation l = unknown_equations (program_tree l.names) l.node (map equation_tree (drop l.equation-index l.equations)) ≡ unknown_equations (program_tree l.names) l.node (map equation_tree l.equations)
