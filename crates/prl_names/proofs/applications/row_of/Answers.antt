use Rattle.prl_base.proofs.Standard.{◌≡◌, false, replicate, length, sym, ◌∙◌, ap, length-map}
use Rattle.prl_ast.specs.Trees.{program_tree, node_tree}
use Rattle.prl_names.specs.Vocabulary.{applied_equations, Adds}
use Rattle.prl_names.proofs.Rowing.{first_row, kept_row}
use Rattle.prl_names.proofs.applications.row_of.Goals as goal

pub returns : goal.returns
returns c =
    let p = program_tree c.args.names.now in
    let node = node_tree c.args.node.now in
    let start = c.deref_mut.result.now in
    let new = c.mark_equations.new.row in
    let count : c.len.result ≡ length p.nodes = c.len.ensures ∙ ap (λ q. length q.nodes) c.program.ensures ∙ sym (length-map c.args.names.now.nodes node_tree) in
    let unmarked : start ≡ replicate (length p.nodes) false = c.deref_mut.ensures.value ∙ c.in_ok-row.ensures.items_if_clones_equal (λ y e. e) ∙ ap (λ n. replicate n false) count in
    let len : length start ≡ c.in_ok-row.row.len = c.deref_mut.ensures.len in
    let full : length start ≡ length p.nodes = len ∙ c.in_ok-row.ensures.len ∙ count in
    let adds : Adds (λ j. applied_equations p j node.eqs) start new = rw c.as_slice.ensures at c.mark_equations.ensures in
    rw (kept_row new _ c.in_ok-row.row.len (adds.same ∙ len)) (first_row p c.args.by node start new c.requires unmarked full adds)
