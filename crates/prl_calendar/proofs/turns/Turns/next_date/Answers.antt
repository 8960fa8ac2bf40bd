use Rattle.prl_base.proofs.Standard.{◌≤◌, arith, heap_items, All-append, All-weaker}
use Rattle.prl_calendar.specs.Turns.{Turn, date_of}
use Rattle.prl_calendar.proofs.Queued.{contains_after, contains_before}
use Rattle.prl_calendar.proofs.turns.Turns.next_date.Goals as goal

pub returns-then-top-first-clause-there : goal.returns-then-top-first-clause-there
returns-then-top-first-clause-there c =
    let (h, there) = c.in-Some-top_date.ensures.there in
    rw (← c.self.view_is) (h, contains_after c.self.inside.queue.items (heap_items c.self.inside.heap) (record { 0 = (c.in-Some-top_date.top, h) }) there)

pub returns-else-top-first-clause-all : goal.returns-else-top-first-clause-all
returns-else-top-first-clause-all c =
    rw (← c.self.view_is) (All-append (λ (e : Turn). c.in-Some.first ≤ date_of e) c.self.inside.queue.items (heap_items c.self.inside.heap) c.in-Some.ensures.all
    (All-weaker (λ (e : Turn). c.in-Some-top_date.top ≤ date_of e) (λ (e : Turn). c.in-Some.first ≤ date_of e) (λ e le. omega (arith, le, c.if-top-first.false)) (heap_items c.self.inside.heap) c.in-Some-top_date.ensures.all))

pub returns-else-top-first-clause-there : goal.returns-else-top-first-clause-there
returns-else-top-first-clause-there c =
    let (h, there) = c.in-Some.ensures.there in
    rw (← c.self.view_is) (h, contains_before c.self.inside.queue.items (heap_items c.self.inside.heap) (record { 0 = (c.in-Some.first, h) }) there)
