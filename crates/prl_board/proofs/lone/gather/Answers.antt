use Rattle.std.proofs.Common.{◌≡◌, sym, ap, subst, ◌∙◌, vec_items, Some, None}
use Rattle.prl_board.specs.Vocabulary.{ClockSeatView, IsClockData, AreLent}
use Rattle.prl_seats.proofs.Following.{known_once}
use Rattle.prl_board.proofs.Lending.{clock_moves}
use Rattle.prl_board.proofs.lone.gather.Goals as goal

pub exchange-requires-clause-run : goal.exchange-requires-clause-run
exchange-requires-clause-run c = λ k has. c.requires.clock.1.known ∙ (sym (ap (λ m. m.0.constants) c.bare-whole.ensures.1) ∙ has)

pub exchange-requires-clause-same : goal.exchange-requires-clause-same
exchange-requires-clause-same c = λ r has. let e : None ≡ Some r = sym (ap (λ m. m.0.clock) c.bare-whole.ensures.1) ∙ has in absurd (cc e)

pub take_in_all-requires-clause-whole : goal.take_in_all-requires-clause-whole
take_in_all-requires-clause-whole c =
    (c.exchange.ensures.given.0 ∙ c.requires.clock.1.table, ap (λ m. m.0.constants) c.exchange.ensures.given.2 ∙ c.requires.clock.1.known)

pub invariant_of-result : goal.invariant_of-result
invariant_of-result c =
    let is = c.requires.clock.1 in
    let r = c.requires.clock.0 in
    let part : c.take_in_all.new.whole.me.0.clock ≡ Some r = c.take_in_all.ensures.clock r (ap (λ m. m.0.clock) c.exchange.ensures.given.2 ∙ is.part) in (
      c.take_in_all.ensures.same.1 ∙ ap (λ m. m.1) c.exchange.ensures.given.2,
      known_once c.take_in_all.new.whole.me.0 c.args.board.now.known (λ k. AreLent k c.take_in_all.new.whole.me.0 (vec_items c.take_in_all.new.seats) c.exchange.new.self) c.take_in_all.ensures.same.2 (record {
        tasks = c.take_in_all.ensures.stand.tasks ∙ c.requires.seats.tasks;
        each = c.take_in_all.ensures.lent;
        ticks = record {
          given = ap (λ (s : ClockSeatView). s.view) c.exchange.ensures.taken ∙ ap (λ m. m.0) c.bare-whole.ensures.1;
          part = (r, part);
          same = subst (λ (s : ClockSeatView). IsClockData c.take_in_all.new.whole.me.0 s.now s.looks) (sym c.exchange.ensures.taken)
              (clock_moves c.args.board.now.known c.args.clock.view c.take_in_all.new.whole.me.0 r c.args.clock.now c.args.clock.looks c.exchange.ensures.data is.known c.take_in_all.ensures.same.2 is.part part);
        };
      }),
    )

pub returns-clause-lone : goal.returns-clause-lone
returns-clause-lone c = record {
  table = c.take_in_all.ensures.same.0 ∙ c.exchange.ensures.given.0 ∙ c.requires.clock.1.table;
  known = c.take_in_all.ensures.same.2;
}

pub returns-clause-clock : goal.returns-clause-clock
returns-clause-clock c = λ r is. c.take_in_all.ensures.clock r (ap (λ m. m.0.clock) c.exchange.ensures.given.2 ∙ is.part)
