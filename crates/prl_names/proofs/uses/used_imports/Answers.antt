use Rattle.std.proofs.Common.{◌<◌, length}
use Rattle.prl_ast.specs.Trees.{program_tree}
use Rattle.prl_names.proofs.Rowing.{own_row}
use Rattle.prl_names.proofs.uses.used_imports.Goals as goal

pub expanded-requires : goal.expanded-requires
expanded-requires c =
    let rows = c.in_ok-rows.rows.items in
    let below : c.args.main < length rows = rw c.in_ok-rows.ensures.len c.requires in
    rw c.as_slice.ensures (own_row (program_tree c.args.names.now) (length c.args.names.now.nodes) c.args.main rows c.index.result.now c.in_ok-rows.ensures.rows below c.index.ensures)
