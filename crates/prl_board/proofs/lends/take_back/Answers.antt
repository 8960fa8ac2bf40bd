use Rattle.std.proofs.Common.{sym, ap, subst, ◌∙◌}
use Rattle.prl_seats.specs.JobSeats.{HasPartOf, reseated}
use Rattle.prl_board.proofs.Lending.{bare_has_none}
use Rattle.prl_board.proofs.lends.take_back.Goals as goal

pub exchange-requires-clause-slots : goal.exchange-requires-clause-slots
exchange-requires-clause-slots c = ap (λ m. m.1) c.requires.spare

pub exchange-requires-clause-run : goal.exchange-requires-clause-run
exchange-requires-clause-run c = λ j has. c.requires.seat.known ∙ (sym (ap (λ m. m.0.constants) c.requires.spare) ∙ has)

pub exchange-requires-clause-stands : goal.exchange-requires-clause-stands
exchange-requires-clause-stands c = λ j has part.
    absurd (bare_has_none c.args.board.now.known c.args.seat.now.task.0 (subst (HasPartOf c.args.seat.now.task.0) (ap (λ m. m.0) c.requires.spare) part))

pub returns-clause-stands : goal.returns-clause-stands
returns-clause-stands c = c.stands.ensures c.args.board.now.known c.requires.seat.known c.requires.seat.part

pub returns-clause-taken : goal.returns-clause-taken
returns-clause-taken c = c.exchange.ensures.taken ∙ (λ h. reseated c.args.whole.now.table_id c.args.whole.now.id ((c.requires.spare h).0) c.args.seat.now)
