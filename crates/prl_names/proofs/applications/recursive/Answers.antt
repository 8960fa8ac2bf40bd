use Rattle.std.proofs.Common.{◌≡◌, ◌<◌, length, get_or, refl, sym, ◌∙◌, ap}
use Rattle.prl_ast.specs.Trees.{program_tree}
use Rattle.prl_names.specs.Vocabulary.{reaches, recursive_of, mark_of}
use Rattle.prl_names.proofs.Rowing.{closed_row, recursive_here, recursive_later}
use Rattle.prl_names.proofs.applications.recursive.Goals as goal
use Rattle.prl_names.proofs.applications.recursive.Goals.{After-index}

below : (c : After-index) → c.loop-k.k < length c.args.names.now.nodes
below c = rw (c.as_slice-node-items.ensures, c.program.ensures) at c.loop-k-test.true

item : (c : After-index) → c.node-item.result ≡ get_or c.args.names.now.nodes c.loop-k.k c.node-item.result
item c = rw (c.as_slice-node-items.ensures, c.program.ensures) at c.node-item.is

row : (c : After-index) → (length c.index.result.now ≡ length c.args.names.now.nodes) × (mark_of c.index.result.now c.loop-k.k ≡ reaches (program_tree c.args.names.now) c.loop-k.k c.loop-k.k)
row c =
    closed_row (program_tree c.args.names.now) c.args.names.now.nodes c.in_ok-rows.rows.items c.loop-k.k c.index.result.now refl c.in_ok-rows.ensures.rows c.in_ok-rows.ensures.len
    (below c) c.index.ensures

pub bounds-as_slice-k : goal.bounds-as_slice-k
bounds-as_slice-k c =
    let d = (goal.at.bounds-as_slice-k c).After-index in
    rw (c.as_slice.ensures, (row d).0) (below d)

pub returns-then-as_slice-k : goal.returns-then-as_slice-k
unfolding recursive_of
returns-then-as_slice-k c =
    let d = (goal.at.returns-then-as_slice-k c).After-index in
    let itself = sym (row d).1 ∙ ap (λ r. mark_of r c.loop-k.k) (sym c.as_slice.ensures) ∙ c.if-as_slice-k.true in
    recursive_here (program_tree c.args.names.now) c.args.names.now.nodes c.loop-k.k c.node-item.result (below d) (item d) itself ∙ c.loop-k.invariant

pub loop-k-preserved : goal.loop-k-preserved
loop-k-preserved c =
    let d = (goal.at.loop-k-preserved c).After-index in
    let not_itself = sym (row d).1 ∙ ap (λ r. mark_of r c.loop-k.k) (sym c.as_slice.ensures) ∙ c.if-as_slice-k.false in
    recursive_later (program_tree c.args.names.now) c.args.names.now.nodes c.loop-k.k c.node-item.result (below d) (item d) not_itself ∙ c.loop-k.invariant
