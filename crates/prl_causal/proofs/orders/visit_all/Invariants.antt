use Rattle.std.proofs.Common.{◌<◌, ℕ, []}
use Rattle.prl_causal.specs.Vocabulary.{IsMarked, IsSorted}
use Rattle.prl_causal.proofs.orders.visit_all.Given as goal

abbrev pub invariant-loop-from : goal.invariant-loop-from
invariant-loop-from l = record {
  sorted : IsSorted l.flat l.sources l.order.items l.placed l.opened l.seen [];
  every : (i : ℕ) → i < l.from → IsMarked l.opened i;
}
