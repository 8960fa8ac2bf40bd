use Rattle.prl_base.proofs.Standard.{List, ℕ, ◌∙◌, ap, subst, sym, IsPermutation}
use Rattle.prl_plan.specs.declared.graphs.TaskGraph.{TaskGraph}
use Rattle.prl_forever.specs.TableRuns.{goes_to}
use Rattle.prl_frames.specs.declared.slots.Slot.{Slot}
use Rattle.prl_frames.specs.Frames.{AreInOrder, IsFrame}
use Rattle.prl_frames.specs.code.Making.{join}
use Rattle.prl_frames.proofs.Frames.{frame_is, sorted_order}
use Rattle.prl_frames.proofs.making.frame_of.Goals as goal

pub join-requires : goal.join-requires
join-requires c =
    let plan = c.args.plan.now in
    let permuted = subst (λ (xs : List Slot). IsPermutation xs c.sort.new.slots.items) c.in_ok-slots.ensures c.sort.ensures.permutation in
    let order = sorted_order plan c.graph.ensures.plan c.args.entries.now c.requires (c.pieces_are_short.ensures.end plan c.graph.ensures.plan) (c.pieces_are_short.ensures.length plan c.graph.ensures.plan)
    c.sort.new.slots.items permuted c.sort.ensures.sorted in
    subst (λ (h : ℕ). AreInOrder h 0 c.deref-2.result.now) (sym (ap (λ (g : TaskGraph). g.hyper) c.graph.ensures.graph))
    (subst (λ (xs : List Slot). AreInOrder c.args.plan.now.graph.hyper 0 xs) (sym c.deref-2.ensures.value) order)

pub returns : goal.returns
returns c =
    let plan = c.args.plan.now in
    let permuted = subst (λ (xs : List Slot). IsPermutation xs c.sort.new.slots.items) c.in_ok-slots.ensures c.sort.ensures.permutation in
    let frame = frame_is plan c.graph.ensures.plan c.args.entries.now c.requires (c.pieces_are_short.ensures.end plan c.graph.ensures.plan) (c.pieces_are_short.ensures.length plan c.graph.ensures.plan)
    c.sort.new.slots.items permuted c.sort.ensures.sorted in
    subst (λ (xs : List Slot). IsFrame c.args.plan.now.graph (goes_to c.args.plan.now.graph c.args.entries.now) xs)
    (sym (c.new.ensures ∙ c.in_ok-list.ensures ∙ ap join c.deref-2.ensures.value)) frame
