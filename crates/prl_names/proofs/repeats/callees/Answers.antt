use Rattle.std.proofs.lemmas.Simd.{map-map}
use Rattle.prl_ast.specs.Trees.{node_tree}
use Rattle.prl_names.specs.Mentions.{placed_node}
use Rattle.prl_names.proofs.repeats.callees.Goals as goal

pub returns : goal.returns
returns c =
    rw (
      c.as_slice-3.ensures.value,
      c.as_slice-4.ensures.value,
      c.in_ok-import_list.ensures,
      c.in_ok-node_list.ensures,
      c.as_slice.ensures,
      c.as_slice-2.ensures,
      ← map-map placed_node node_tree c.args.program.now.nodes,
    ) at c.merged.ensures
