use Rattle.std.proofs.Common.{◌<◌, length}
use Rattle.prl_calendar.specs.Turns.{place_of}
use Rattle.prl_calendar.proofs.Queued.{popped_holds}
use Rattle.prl_calendar.proofs.turns.turn.Goals as goal

pub date_after-later-requires : goal.date_after-later-requires
date_after-later-requires c =
    popped_holds (λ e. place_of e < length c.args.clocks.now) (record { 0 = (c.args.date, c.in-Some.first) }) c.args.turns.now c.take.new.self c.in-Some.ensures.some c.requires.places

pub bounds-clocks-first : goal.bounds-clocks-first
bounds-clocks-first c =
    popped_holds (λ e. place_of e < length c.args.clocks.now) (record { 0 = (c.args.date, c.in-Some.first) }) c.args.turns.now c.take.new.self c.in-Some.ensures.some c.requires.places

pub returns-clause-some : goal.returns-clause-some
returns-clause-some c = record {
  rest = c.take.new.self;
  popped = c.in-Some.ensures.some;
  pushed = rw (← c.date_after-later.ensures) c.in_ok-push.ensures;
}
