use Rattle.std.proofs.Common.{◌≡◌, sym, ap, subst, ◌∙◌, Some}
use Rattle.prl_rule.specs.declared.views.Constants.{Constants}
use Rattle.prl_seats.specs.JobSeats.{Follows, HasPartOf, JobSeatView, reseated}
use Rattle.prl_board.proofs.SeatReads.{Keeps}
use Rattle.prl_board.proofs.seats.TaskSeat.exchange.Goals as goal

pub exchange-requires-clause-stands : goal.exchange-requires-clause-stands
exchange-requires-clause-stands c =
    subst (λ (s : JobSeatView). (k : Constants) → c.args.other.now.me.0.constants ≡ Some k → HasPartOf s.task.0 c.args.other.now.me.0 → Follows k c.args.other.now.me.0 s.task.0 s.job s.place s.stage) (sym c.self.view_is) c.requires.stands

pub invariant_of-self : goal.invariant_of-self
invariant_of-self c = λ k known.
    let taken : c.exchange.new.self ≡ reseated c.args.other.now.table_id c.args.other.now.id c.args.other.now.me.0 c.self.inside.job = c.exchange.ensures.taken in
    let own = ap (λ (s : JobSeatView). s.view.constants) c.self.view_is ∙ c.requires.run k (sym (ap (λ (s : JobSeatView). s.view.constants) taken) ∙ known) in
    subst (λ (s : JobSeatView). Keeps k s c.self.inside.low c.self.inside.worker) (sym taken) (c.self.invariant k own)
