use Rattle.prl_base.proofs.Standard.{◌≡◌, map, range_with_len}
use Rattle.prl_ast.specs.Trees.{program_tree}
use Rattle.prl_expand.specs.Vocabulary.{have_types, types_of, flow_of}
use Rattle.prl_expand.proofs.variables.variables.Given as goal

abbrev pub invariant-loop-j : goal.invariant-loop-j
invariant-loop-j l = record {
  flows : map flow_of l.terms.items ≡ range_with_len l.first l.j;
  types : types_of l.terms.items ≡ have_types (program_tree l.typed.program) l.typed.types l.k l.j;
}
