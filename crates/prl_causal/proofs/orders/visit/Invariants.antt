use Rattle.std.proofs.Common.{ℕ, length}
use Rattle.prl_causal.specs.Vocabulary.{IsMarked, IsSorted, left}
use Rattle.prl_causal.proofs.orders.visit.Given as goal

abbrev pub invariant-loop-top : goal.invariant-loop-top
invariant-loop-top l = record {
  sorted : IsSorted l.flat l.sources l.order.items l.placed l.opened l.seen l.stack.items;
  here : IsMarked l.opened l.from;
  kept : (i : ℕ) → IsMarked l.initial.opened i → IsMarked l.opened i;
}

abbrev pub decreases-loop-top : goal.decreases-loop-top
decreases-loop-top l = left (length l.sources) l.opened l.order.items l.stack.items
