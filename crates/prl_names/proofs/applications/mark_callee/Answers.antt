use Rattle.prl_base.proofs.Standard.{sym, length-map}
use Rattle.prl_ast.specs.Trees.{program_tree}
use Rattle.prl_names.proofs.Marking.{callee_below}
use Rattle.prl_names.proofs.applications.mark_callee.Goals as goal

pub bounds-row-k : goal.bounds-row-k
bounds-row-k c =
    let named = rw (c.in-Some-Node.field-0-is, c.bytes.ensures.bytes) at c.in-Some-Node.ensures in
    let below = callee_below (program_tree c.args.names.now) c.args.name.now c.in-Some-Node.k (sym named) in
    rw c.requires (rw length-map at below)
