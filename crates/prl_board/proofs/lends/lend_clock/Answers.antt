use Rattle.std.proofs.Common.{[], sym, ap, ◌∙◌}
use Rattle.prl_rule.specs.declared.views.View.{View}
use Rattle.prl_board.specs.ClockSeats.{ClockSeatView}
use Rattle.prl_board.proofs.lends.lend_clock.Goals as goal

pub exchange-requires-clause-run : goal.exchange-requires-clause-run
exchange-requires-clause-run c = λ k has. ap (λ (v : View). v.constants) c.requires.lent.given ∙ (sym c.requires.whole.2 ∙ has)

pub exchange-requires-clause-same : goal.exchange-requires-clause-same
exchange-requires-clause-same c = c.requires.lent.same.same

pub returns-clause-taken : goal.returns-clause-taken
returns-clause-taken c = λ r has.
    let taken = c.exchange.ensures.taken in
    record {
      table = ap (λ (s : ClockSeatView). s.table) taken ∙ c.requires.whole.0;
      known = ap (λ (s : ClockSeatView). s.view.constants) taken ∙ c.requires.whole.2;
      part = ap (λ (s : ClockSeatView). s.view.clock) taken ∙ has;
    }

pub returns-clause-view : goal.returns-clause-view
returns-clause-view c = ap (λ (s : ClockSeatView). s.view) c.exchange.ensures.taken

pub returns-clause-spare : goal.returns-clause-spare
returns-clause-spare c = c.exchange.ensures.given.2 ∙ ap (λ (v : View). (v, [])) c.requires.lent.given
