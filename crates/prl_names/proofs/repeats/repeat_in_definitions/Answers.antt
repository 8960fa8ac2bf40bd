use Rattle.prl_base.proofs.Standard.{◌≡◌, ◌∙◌, ap, option_map}
use Rattle.prl_ast.specs.Trees.{program_tree, node_tree}
use Rattle.prl_names.specs.Vocabulary.{all_placed, placed_of, first_of, repeat_in, definition_space}
use Rattle.prl_names.proofs.Repeating.{defined_step, definitions_at, node_at}
use Rattle.prl_names.proofs.repeats.repeat_in_definitions.Goals as goal

pub loop-k-preserved : goal.loop-k-preserved
loop-k-preserved c =
    let nodes = c.args.names.now.nodes in
    let k = c.loop-k.k in
    let x = c.node-item.result in
    let first = option_map placed_of c.loop-k.first in
    let below = rw (c.as_slice-node-items.ensures, c.program.ensures) at c.loop-k-test.true in
    let item = rw (c.as_slice-node-items.ensures, c.program.ensures) at c.node-item.is in
    let space : all_placed c.as_slice.result.now ≡ definition_space (node_tree x) =
    ap all_placed c.as_slice.ensures.value ∙ c.in_ok-space.ensures ∙ definitions_at (program_tree c.args.names.now) k (node_tree x) (node_at nodes k x below item) in
    let next : option_map placed_of c.first_of-first.result ≡ first_of first (repeat_in (all_placed c.as_slice.result.now)) =
    c.first_of-first.ensures ∙ ap (first_of first) c.in_ok-repeat_in.ensures in
    defined_step nodes k x first (option_map placed_of c.first_of-first.result) (all_placed c.as_slice.result.now) below item space next ∙ c.loop-k.invariant
