use Rattle.std.proofs.lemmas.Simd.{map-map}
use Rattle.prl_ast.specs.Trees.{NodeTree, node_tree}
use Rattle.prl_names.proofs.lookups.Names.new.Goals as goal

pub invariant_of-result : goal.invariant_of-result
invariant_of-result c = record {
  nodes_are = rw (c.as_slice-2.ensures, ← map-map (λ (n : NodeTree). n.name) node_tree c.args.program.now.nodes) at c.in_ok-nodes.ensures;
  imports_are = rw c.as_slice-3.ensures at c.in_ok-imports.ensures;
  params_are = rw c.as_slice.ensures at c.in_ok-params.ensures;
}
