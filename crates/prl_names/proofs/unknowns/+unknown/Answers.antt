use Rattle.std.proofs.Common.{◌≡◌, sym, ◌∙◌, ap, refl, Some, List, ℕ}
use Rattle.prl_base.specs.declared.places.Span.{Span}
use Rattle.prl_ast.specs.Trees.{apply, Trees, ProgramTree, program_tree}
use Rattle.prl_names.specs.Vocabulary.{Callee, all_trees, callee_of, unknown_root, unknown_trees}
use Rattle.prl_names.proofs.Rows.{root_of_Apply, root_of_Group}
use Rattle.prl_names.proofs.unknowns.+unknown.Goals as goal

known : (p : ProgramTree) (node : ℕ) (name : List ℕ) (at : Span) (args : Trees) (callee : Callee) → Some callee ≡ callee_of p name →
    unknown_root p node (apply name at args) ≡ unknown_trees p node args
known p node name at args callee is = rw (← is) refl

pub unknown_in-returns-in-Some-callee : goal.unknown_in-returns-in-Some-callee
unknown_in-returns-in-Some-callee t c =
    let p = program_tree c.args.names.now in
    let name = c.in-Apply.name in
    let args = all_trees c.in-Apply.args.items in
    let whole = ap (unknown_root p c.args.node) (root_of_Apply name c.in-Apply.at c.in-Apply.args) in
    let callee = rw c.bytes-in-Apply.ensures.bytes at c.in-Some-callee.ensures in
    let others = rw c.deref.ensures.value at c.unknown_trees.ensures in
    rw c.in-Apply.is (others ∙ sym (known p c.args.node name c.in-Apply.at args c.in-Some-callee.field-0 callee) ∙ sym whole)

pub unknown_in-returns-in-Group : goal.unknown_in-returns-in-Group
unknown_in-returns-in-Group t c =
    let whole = ap (unknown_root (program_tree c.args.names.now) c.args.node) (root_of_Group c.in-Group.parts) in
    let others = rw c.deref-in-Group.ensures.value at c.unknown_trees-in-Group.ensures in
    rw c.in-Group.is (others ∙ sym whole)
