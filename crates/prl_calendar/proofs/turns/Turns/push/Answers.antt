use Rattle.prl_base.proofs.Standard.{heap_items, IsNonDecreasingBy-push}
use Rattle.prl_calendar.specs.Turns.{Turn, date_of}
use Rattle.prl_calendar.proofs.Queued.{heap_pushed, queue_pushed}
use Rattle.prl_calendar.proofs.turns.Turns.push.Goals as goal

pub invariant_of-self-then-are_by : goal.invariant_of-self-then-are_by
invariant_of-self-then-are_by c =
    let e : Turn = record { 0 = (c.args.date, c.args.first) } in
    rw c.in_ok-push_back.ensures.items (IsNonDecreasingBy-push date_of c.self.inside.queue.items e c.self.invariant.0 (c.are_by.ensures c.if-are_by.true), c.self.invariant.1)

pub returns-in_ok-push_back : goal.returns-in_ok-push_back
returns-in_ok-push_back c =
    let e : Turn = record { 0 = (c.args.date, c.args.first) } in
    rw (← c.self.view_is, c.in_ok-push_back.ensures.items) (queue_pushed e c.self.inside.queue.items (heap_items c.self.inside.heap))

pub returns-in_ok-push : goal.returns-in_ok-push
returns-in_ok-push c =
    let e : Turn = record { 0 = (c.args.date, c.args.first) } in
    rw (← c.self.view_is) (heap_pushed e c.self.inside.queue.items (heap_items c.self.inside.heap) (heap_items c.push.new.self) c.in_ok-push.ensures.permutation)
