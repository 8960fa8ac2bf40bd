use Rattle.prl_base.proofs.Standard.{ap, ◌∙◌}
use Rattle.prl_ast.specs.Trees.{root_of}
use Rattle.prl_names.proofs.Rows.{root_of_Apply, root_of_Group}
use Rattle.prl_expand.proofs.steps.+push_steps.Goals as goal

pub push_parts-returns-in-Apply : goal.push_parts-returns-in-Apply
push_parts-returns-in-Apply t c =
    let whole = ap root_of c.in-Apply.is ∙ root_of_Apply c.in-Apply.name c.in-Apply.at c.in-Apply.args in
    rw whole (rw c.deref.ensures.value at c.push_all.ensures)

pub push_parts-returns-in-Group : goal.push_parts-returns-in-Group
push_parts-returns-in-Group t c =
    let whole = ap root_of c.in-Group.is ∙ root_of_Group c.in-Group.parts in
    rw whole (rw c.deref-in-Group.ensures.value at c.push_all-in-Group.ensures)
