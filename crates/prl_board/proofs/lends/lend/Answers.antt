use Rattle.std.proofs.Common.{[], sym, ap, subst, ◌∙◌}
use Rattle.prl_rule.specs.declared.views.View.{View}
use Rattle.prl_seats.specs.JobSeats.{Follows, HasPartOf, JobSeatView}
use Rattle.prl_seats.proofs.Following.{known_once}
use Rattle.prl_board.proofs.lends.lend.Goals as goal

pub exchange-requires-clause-run : goal.exchange-requires-clause-run
exchange-requires-clause-run c = λ j has. ap (λ (v : View). v.constants) c.requires.lent.given ∙ (sym c.requires.whole.2 ∙ has)

pub exchange-requires-clause-stands : goal.exchange-requires-clause-stands
exchange-requires-clause-stands c = λ j has part.
    known_once c.args.whole.now.me.0 c.args.board.now.known (λ k. Follows k c.args.whole.now.me.0 c.args.seat.now.task.0 c.args.seat.now.job c.args.seat.now.place c.args.seat.now.stage) c.requires.whole.2 c.requires.lent.stands j has

pub returns-clause-seat : goal.returns-clause-seat
returns-clause-seat c =
    let taken = c.exchange.ensures.taken in record {
      table = ap (λ (s : JobSeatView). s.table) taken ∙ c.requires.whole.0;
      known = ap (λ (s : JobSeatView). s.view.constants) taken ∙ c.requires.whole.2;
      part = subst (λ (s : JobSeatView). HasPartOf s.task.0 s.view) (sym taken) c.requires.lent.stands.at.part;
    }

pub returns-clause-spare : goal.returns-clause-spare
returns-clause-spare c = c.exchange.ensures.given.2 ∙ (λ h. (c.requires.lent.given h, []))
