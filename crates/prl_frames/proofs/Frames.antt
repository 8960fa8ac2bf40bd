-- The frame of a good table.
use Rattle.prl_base.proofs.Standard.{◌+◌, ◌<◌, ◌≤◌, ◌^◌, List, All, All-permutation, ◌∙◌, arith, IsNonDecreasingBy, IsPermutation}
use Rattle.prl_plan.specs.Vocabulary.{PlanView, IsPlan}
use Rattle.prl_tables.specs.Vocabulary.{Entry, IsGood, IsPiece}
use Rattle.prl_forever.specs.TableRuns.{goes_to}
use Rattle.prl_frames.specs.declared.slots.Slot.{Slot}
use Rattle.prl_frames.specs.Frames.{AreInOrder, IsFrame, IsMarked}
use Rattle.prl_frames.specs.code.Making.{cut_all, join}
use Rattle.prl_frames.proofs.Ticks.{edge_is, goes_all}
use Rattle.prl_frames.proofs.Places.{all_apart, apart_permuted, each_of_all, goes_permuted, AreShort}
use Rattle.prl_frames.proofs.Orders.{in_order, Fits}
use Rattle.prl_frames.proofs.Joins.{all_joined, each_joined, goes_joined, order_joined}
use Rattle.prl_frames.proofs.Marks.{marks_join, slot_is_marked}

module _ (plan : PlanView) (is : IsPlan plan) (entries : List Entry) (good : IsGood plan entries)
    (end : (entry : Entry) → IsPiece plan entry → entry.at + entry.units < 2 ^ 33) (lengths : (entry : Entry) → IsPiece plan entry → entry.units ≤ plan.graph.hyper) where
  some : 1 ≤ plan.graph.hyper
  some = is.graph.hyper

  short : AreShort plan.graph.hyper some entries
  short k entry at = (let piece = good.pieces k entry at in (piece.units, lengths entry piece))

  abbrev slots : List Slot
  slots = cut_all plan.graph.hyper entries entries

  fit : All (Fits plan.graph.hyper) slots
  fit = each_of_all plan.graph.hyper some (Fits plan.graph.hyper) entries entries short
      (λ k entry at a b within order edge.
      (let e = (edge_is plan.graph.hyper some a).0 in
      (omega (arith, order), omega (arith, edge, e, order))))

  marked : All (IsMarked (goes_to plan.graph entries) plan.graph.hyper) slots
  marked = each_of_all plan.graph.hyper some (IsMarked (goes_to plan.graph entries) plan.graph.hyper) entries entries short
      (λ k entry at a b within order edge.
      slot_is_marked plan.graph some entries short good.apart (λ k entry at. (good.pieces k entry at).class) (λ k entry at. end entry (good.pieces k entry at)) k entry at a b within order)

  module _ (sorted : List Slot) (permuted : IsPermutation slots sorted) (ordered : IsNonDecreasingBy (λ (slot : Slot). slot.at) sorted) where
    pub sorted_order : AreInOrder plan.graph.hyper 0 sorted
    sorted_order =
        in_order plan.graph.hyper sorted 0 (λ k slot at. omega arith) ordered (apart_permuted slots sorted permuted (all_apart plan.graph.hyper some entries entries short good.apart))
        (All-permutation (Fits plan.graph.hyper) slots sorted permuted fit)

    pub frame_is : IsFrame plan.graph (goes_to plan.graph entries) (join sorted)
    frame_is = record {
      same = λ t.
          goes_joined plan.graph t sorted ∙ goes_permuted plan.graph t slots sorted permuted (all_apart plan.graph.hyper some entries entries short good.apart)
          ∙ goes_all plan.graph some t entries entries (λ k entry at. (short k entry at).1);
      order = order_joined plan.graph.hyper sorted sorted_order;
      joined = all_joined sorted;
      marked = each_joined (IsMarked (goes_to plan.graph entries) plan.graph.hyper) (λ one next on first second. marks_join (goes_to plan.graph entries) plan.graph.hyper one next on first second) sorted
          (All-permutation (IsMarked (goes_to plan.graph entries) plan.graph.hyper) slots sorted permuted marked);
    }
