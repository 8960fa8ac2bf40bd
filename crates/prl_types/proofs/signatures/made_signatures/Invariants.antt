use Rattle.prl_base.proofs.Standard.{◌≡◌, map, range_with_len}
use Rattle.prl_ast.specs.Trees.{program_tree}
use Rattle.prl_types.specs.code.Signatures.{callee_at, signature_of}
use Rattle.prl_types.proofs.signatures.made_signatures.Given as goal

abbrev pub invariant-loop-k : goal.invariant-loop-k
invariant-loop-k l = l.list.items ≡ map (λ k. signature_of (program_tree l.context) (callee_at l.are_nodes k)) (range_with_len 0 l.k)
