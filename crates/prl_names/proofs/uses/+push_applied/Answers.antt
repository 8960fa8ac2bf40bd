use Rattle.prl_base.proofs.Standard.{ap, ◌∙◌, append_assoc, map-append}
use Rattle.prl_ast.specs.Trees.{root_of}
use Rattle.prl_names.proofs.Rows.{root_of_Apply, root_of_Group}
use Rattle.prl_names.proofs.uses.+push_applied.Goals as goal

pub push_applied-returns-in_ok-push-in-Apply : goal.push_applied-returns-in_ok-push-in-Apply
push_applied-returns-in_ok-push-in-Apply t c =
    let whole = ap root_of c.in-Apply.is ∙ root_of_Apply c.in-Apply.name c.in-Apply.at c.in-Apply.args in
    rw whole (rw (c.deref.ensures.value, c.in_ok-push-in-Apply.ensures.items, map-append, append_assoc) at c.push_all_applied.ensures)

pub push_applied-returns-in-Group : goal.push_applied-returns-in-Group
push_applied-returns-in-Group t c =
    let whole = ap root_of c.in-Group.is ∙ root_of_Group c.in-Group.parts in
    rw whole (rw c.deref-in-Group.ensures.value at c.push_all_applied-in-Group.ensures)
