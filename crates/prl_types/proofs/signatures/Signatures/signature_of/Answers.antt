use Rattle.std.proofs.Common.{sym, subst}
use Rattle.prl_ast.specs.Trees.{program_tree}
use Rattle.prl_names.specs.declared.lookups.Callee.TheVariants as callees
use Rattle.prl_types.specs.code.Signatures.{Signs}
use Rattle.prl_types.proofs.Signed.{import_signed, node_signed}
use Rattle.prl_types.proofs.signatures.Signatures.signature_of.Goals as goal

pub returns-in-Import : goal.returns-in-Import
returns-in-Import c =
    let p = program_tree c.self.inside.context.now in
    let signed = import_signed p c.self.inside.imports.items c.in-Import.k c.self.invariant.of_imports in
    rw (← c.self.view_is, c.in-Import.is)
    (subst (λ o. Signs p o (callees.Import c.in-Import.k)) (sym (rw c.deref.ensures.value at c.signature_at.ensures)) signed)

pub returns-in-Node : goal.returns-in-Node
returns-in-Node c =
    let p = program_tree c.self.inside.context.now in
    let signed = node_signed p c.self.inside.nodes.items c.in-Node.k c.self.invariant.of_nodes in
    rw (← c.self.view_is, c.in-Node.is)
    (subst (λ o. Signs p o (callees.Node c.in-Node.k)) (sym (rw c.deref-in-Node.ensures.value at c.signature_at-in-Node.ensures)) signed)
