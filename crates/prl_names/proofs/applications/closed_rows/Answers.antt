use Rattle.prl_base.proofs.Standard.{◌<◌, length, sym, ◌∙◌, add-one, length-map}
use Rattle.prl_ast.specs.Trees.{program_tree, node_tree}
use Rattle.prl_names.specs.Marks.{led_through, row_of}
use Rattle.prl_names.proofs.Rowing.{rows_square, all_led}
use Rattle.prl_names.proofs.applications.closed_rows.Goals as goal

pub all_led_through-requires-clause-square : goal.all_led_through-requires-clause-square
all_led_through-requires-clause-square c =
    let p = program_tree c.args.names.now in
    let count = length-map c.args.names.now.nodes node_tree in
    (λ i d below. rows_square p c.loop-k.k 0 i c.loop-k.rows.items d c.loop-k.invariant.rows below ∙ count ∙ sym c.loop-k.invariant.len)

pub loop-k-preserved : goal.loop-k-preserved
loop-k-preserved c =
    let p = program_tree c.args.names.now in
    let k = c.loop-k.k in
    let rows = c.loop-k.rows.items in
    let count = length-map c.args.names.now.nodes node_tree in
    let below : k < length p.nodes = rw count (rw (c.len-k-end.ensures, c.program.ensures) at c.loop-k-test.true) in
    let led = c.in_ok-rows-2.ensures in
    record {
      rows = rw (led, add-one) (all_led p k rows below (c.loop-k.invariant.len ∙ sym count) c.loop-k.invariant.rows);
      len = rw led (length-map rows (led_through k (row_of rows k)) ∙ c.loop-k.invariant.len);
    }
