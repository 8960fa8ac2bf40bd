use Rattle.std.proofs.Common.{◌≡◌, map, drop}
use Rattle.prl_ast.specs.Trees.{program_tree, equation_tree}
use Rattle.prl_types.specs.Arity.{first_at, equations_faults}
use Rattle.prl_types.proofs.arities.equations_fault.Given as goal

abbrev pub invariant-loop-equation : goal.invariant-loop-equation
invariant-loop-equation l = first_at (equations_faults (program_tree l.context) l.node (map equation_tree (drop l.equation-index l.equations))) ≡ first_at (equations_faults (program_tree l.context) l.node (map equation_tree l.equations))
