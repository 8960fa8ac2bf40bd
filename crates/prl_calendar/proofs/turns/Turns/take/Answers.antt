use Rattle.prl_base.proofs.Standard.{◌≤◌, ◌<◌, sym, subst, heap_items, All-append, IfSome_then}
use Rattle.std.specs.List.{All}
use Rattle.prl_calendar.specs.Turns.{Turn, date_of}
use Rattle.prl_calendar.proofs.Queued.{all_right, heap_popped, none_then}
use Rattle.prl_calendar.proofs.turns.Turns.take.Goals as goal

pub take_top-requires-clause-late : goal.take_top-requires-clause-late
take_top-requires-clause-late c =
    all_right (λ (e : Turn). c.args.date ≤ date_of e) c.self.inside.queue.items (heap_items c.self.inside.heap) (subst (All (λ (e : Turn). c.args.date ≤ date_of e)) (sym c.self.view_is) c.requires)

pub returns-clause-some : goal.returns-clause-some
returns-clause-some c =
    rw (← c.self.view_is, c.in_default.ensures.same) (IfSome_then c.take_top.result c.take_top.ensures.some
    (λ first popped. heap_popped (record { 0 = (c.args.date, first) }) c.self.inside.queue.items (heap_items c.self.inside.heap) (heap_items c.take_top.new.heap) popped))

pub returns-clause-none : goal.returns-clause-none
returns-clause-none c =
    rw (← c.self.view_is) (none_then c.take_top.result c.take_top.ensures.none (All-append (λ (e : Turn). c.args.date < date_of e) c.self.inside.queue.items (heap_items c.self.inside.heap) c.in_default.ensures.none))
