use Rattle.std.proofs.Common.{◌∙◌}
use Rattle.prl_ast.specs.Trees.{node_tree}
use Rattle.prl_names.proofs.Absent.{absent_output, absent_local}
use Rattle.prl_names.proofs.absences.undefined_in.Goals as goal

pub returns-in-Some : goal.returns-in-Some
returns-in-Some c =
    let list = rw (← c.as_slice.ensures.value) at c.in_ok-lefts.ensures in
    let first = rw c.as_slice-2.ensures at c.in-Some.ensures in
    absent_output c.in_ok-table.table c.as_slice.result.now (node_tree c.args.node.now) c.in-Some.name.now list c.in_ok-table.ensures first

pub returns : goal.returns
returns c =
    let list = rw (← c.as_slice.ensures.value) at c.in_ok-lefts.ensures in
    let first = rw c.as_slice-2.ensures at c.in-None.ensures in
    let others = rw c.as_slice-in-None.ensures at c.absent-in-None.ensures in
    others ∙ absent_local c.in_ok-table.table c.as_slice.result.now (node_tree c.args.node.now) list c.in_ok-table.ensures first
