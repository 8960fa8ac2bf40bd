use Rattle.std.proofs.Common.{take, map}
use Rattle.prl_ast.specs.Trees.{program_tree, equation_tree}
use Rattle.prl_names.specs.Vocabulary.{applied_equations, Adds}
use Rattle.prl_names.proofs.applications.mark_equations.Given as goal

abbrev pub invariant-loop-equation : goal.invariant-loop-equation
invariant-loop-equation l = Adds (λ j. applied_equations (program_tree l.names) j (map equation_tree (take l.equation-index l.equations))) l.initial.row l.row
