use Rattle.prl_causal.proofs.Runs.{first_order}
use Rattle.prl_causal.proofs.orders.order.Goals as goal

pub visit_all-requires-clause-sorted : goal.visit_all-requires-clause-sorted
visit_all-requires-clause-sorted c =
    rw (
      c.new-order.ensures.items,
      c.as_mut_slice.ensures.value,
      c.as_mut_slice-2.ensures.value,
      c.as_mut_slice-3.ensures.value,
      c.in_ok-marks.ensures.placed,
      c.in_ok-marks.ensures.opened,
      c.in_ok-marks.ensures.seen,
    ) (first_order c.args.flat.now c.args.sources.now)
