use Rattle.std.proofs.Common.{sym, ap, subst, ◌∙◌}
use Rattle.prl_board.specs.ClockSeats.{ClockSeatView, IsClockData}
use Rattle.prl_board.proofs.Called.{bare_has_no_clock}
use Rattle.prl_board.proofs.lends.take_back_clock.Goals as goal

pub exchange-requires-clause-slots : goal.exchange-requires-clause-slots
exchange-requires-clause-slots c = ap (λ m. m.1) c.requires.spare

pub exchange-requires-clause-run : goal.exchange-requires-clause-run
exchange-requires-clause-run c = λ k has. c.requires.seat.1.known ∙ (sym (ap (λ m. m.0.constants) c.requires.spare) ∙ has)

pub exchange-requires-clause-same : goal.exchange-requires-clause-same
exchange-requires-clause-same c = λ r has. bare_has_no_clock c.args.board.now.known c.args.whole.now.me.0 r (ap (λ m. m.0) c.requires.spare) has

pub returns-clause-lent : goal.returns-clause-lent
returns-clause-lent c = record {
  given = ap (λ (s : ClockSeatView). s.view) c.exchange.ensures.taken ∙ ap (λ m. m.0) c.requires.spare;
  part = (c.requires.seat.0, c.requires.seat.1.part);
  same = subst (λ (s : ClockSeatView). IsClockData c.args.clock.now.view s.now s.looks) (sym c.exchange.ensures.taken) c.exchange.ensures.data;
}
