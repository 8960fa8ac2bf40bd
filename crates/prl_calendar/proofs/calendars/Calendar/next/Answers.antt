use Rattle.std.proofs.Common.{◌<◌, ℕ, List, arith, refl}
use Rattle.prl_base.specs.declared.operators.Clock.{Clock}
use Rattle.prl_calendar.specs.Calendars.{IsNextDate}
use Rattle.prl_calendar.specs.Turns.{Turn, last}
use Rattle.prl_calendar.proofs.Turning.{next_is, none_left, turning_due, turning_none}
use Rattle.prl_calendar.proofs.calendars.Calendar.next.Goals as goal
use Rattle.prl_calendar.proofs.calendars.Calendar.next.Goals.{In-Some}

pub returns-in_default-clause-told : goal.returns-in_default-clause-told
returns-in_default-clause-told c =
    let clocks : List Clock = c.self.inside.clocks.now in
    let until : ℕ = c.self.inside.until in
    let from : ℕ = c.self.inside.from in
    let turns : List Turn = c.self.inside.turns in
    rw (← c.self.view_is) (none_left clocks last until from turns (omega arith) (c.self.invariant.told c.if-self.false) c.in_default.ensures.none, refl)

next : (c : In-Some) → IsNextDate (record { clocks = c.self.inside.clocks.now; from = c.self.inside.from; until = c.self.inside.until }) c.in-Some.date
next c =
    next_is c.self.inside.clocks.now last c.self.inside.until c.self.inside.from c.in-Some.date c.in-Some.ensures.there.0 c.self.inside.turns (omega arith)
    (c.self.invariant.told c.if-self.false) c.in-Some.ensures.all c.in-Some.ensures.there.1 c.in-Some.ensures.before

pub take_due-requires-clause-turning : goal.take_due-requires-clause-turning
take_due-requires-clause-turning c =
    let n = next (goal.at.take_due-requires-clause-turning c).In-Some in
    let before : c.in-Some.date < last = omega arith in
    rw c.clear.ensures.items
    (turning_none c.self.inside.clocks.now last c.self.inside.from c.in-Some.date c.self.inside.turns (c.self.invariant.told c.if-self.false) n.from before c.in-Some.ensures.all)

pub returns-clause-told : goal.returns-clause-told
returns-clause-told c =
    rw (← c.self.view_is) (
      next (goal.at.returns-clause-told c).In-Some,
      turning_due c.self.inside.clocks.now last c.in-Some.date c.take_due.new.turns c.take_due.new.due.items c.sort.new.due.items c.in_ok-take_due.ensures.turning
          c.in_ok-take_due.ensures.over c.sort.ensures.same c.sort.ensures.rising,
      refl,
    )
