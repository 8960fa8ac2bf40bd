use Rattle.std.proofs.Common.{◌≡◌, ◌++◌, drop, filter}
use Rattle.std.specs.Option.{is_some}
use Rattle.prl_ast.specs.Trees.{program_tree}
use Rattle.prl_ast.specs.declared.declarations.Placed.{Placed}
use Rattle.prl_names.specs.Vocabulary.{all_placed, param_at}
use Rattle.prl_names.proofs.repeats.push_defined.Given as goal

abbrev pub invariant-loop-left : goal.invariant-loop-left
invariant-loop-left l = all_placed l.list.items ++ filter (λ (p : Placed). is_some (param_at (program_tree l.names) l.node p.name)) (drop l.left-index l.lefts) ≡ all_placed l.initial.list.items ++ filter (λ (p : Placed). is_some (param_at (program_tree l.names) l.node p.name)) l.lefts
