use Rattle.prl_base.proofs.Standard.{arith, ◌≡◌, ◌+◌, ℕ, vec_len, subst, Some, slice_get_read}
use Rattle.std.specs.List.{slice_get}
use Rattle.prl_ast.specs.Trees.{program_tree}
use Rattle.prl_types.specs.Vocabulary.{count_of, HasParameter}
use Rattle.prl_types.proofs.Declared.{IsPlaced, placed_type}
use Rattle.prl_types.proofs.typing.Typed.ty.Goals as goal

place : (c : goal.After-row_known-1) → IsPlaced (program_tree c.self.inside.program.now) c.self.inside.firsts.items (vec_len c.self.inside.types) c.args.node c.args.param c.index.result.now
place c =
    let p = program_tree c.self.inside.program.now in
    let has : HasParameter p c.args.node c.args.param = rw (← c.self.view_is) at c.requires in
    let count : vec_len c.self.inside.types ≡ count_of p = omega (arith, c.self.inside.types.ok, c.self.invariant.1) in
    placed_type p c.self.inside.firsts.items (vec_len c.self.inside.types) c.args.node c.args.param c.index.result.now c.self.invariant.0 count has c.index.ensures

pub overflow_add-index : goal.overflow_add-index
overflow_add-index c = omega (arith, (place c).below, c.self.inside.types.small)

pub index-requires-2 : goal.index-requires-2
index-requires-2 c = (place c).below

pub returns : goal.returns
returns c =
    let p = program_tree c.self.inside.program.now in
    let has : HasParameter p c.args.node c.args.param = rw (← c.self.view_is) at c.requires in
    let count : vec_len c.self.inside.types ≡ count_of p = omega (arith, c.self.inside.types.ok, c.self.invariant.1) in
    let at = placed_type p c.self.inside.firsts.items (vec_len c.self.inside.types) c.args.node c.args.param c.index.result.now c.self.invariant.0 count has c.index.ensures in
    let read = slice_get_read c.self.inside.types.items (vec_len c.self.inside.types) (c.index.result.now + c.args.param) c.index-2.result.now (omega (arith, c.self.inside.types.ok)) at.below c.index-2.ensures in
    rw (← c.self.view_is) (subst (λ (n : ℕ). slice_get c.self.inside.types.items (n + c.args.param) ≡ Some c.index-2.result.now) at.first_is read)
