use Rattle.prl_tables.proofs.OrderLaws.{from_in, in_time, order_broken, order_kept, reads_late, release_later, small_sums, to_in}
use Rattle.prl_tables.proofs.orders.order_laws.Goals as goal

pub returns-clause-reads : goal.returns-clause-reads
returns-clause-reads c = λ plan is. reads_late plan is c.operands_precede.ensures

pub returns-clause-later : goal.returns-clause-later
returns-clause-later _ = release_later

pub returns-clause-time : goal.returns-clause-time
returns-clause-time c = λ plan is. in_time plan is (λ before after precedes. (c.encoded_dates_keep_order.ensures.earlier plan is before after precedes).0)

pub returns-clause-small : goal.returns-clause-small
returns-clause-small c = λ plan is entries pieces whole. small_sums plan is entries pieces whole (c.pieces_are_short.ensures.end plan is)

pub returns-clause-kept : goal.returns-clause-kept
returns-clause-kept _ = order_kept

pub returns-clause-broken : goal.returns-clause-broken
returns-clause-broken c = λ plan is entries pieces whole. order_broken plan is entries pieces whole (c.pieces_are_short.ensures.end plan is)

pub returns-clause-to : goal.returns-clause-to
returns-clause-to _ = to_in

pub returns-clause-from : goal.returns-clause-from
returns-clause-from _ = from_in
