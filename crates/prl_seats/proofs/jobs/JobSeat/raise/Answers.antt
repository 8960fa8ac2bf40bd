use Rattle.std.proofs.Common.{refl, ap, ◌∙◌}
use Rattle.prl_rule.specs.Vocabulary.{part_at, part_raised}
use Rattle.prl_rule.specs.declared.views.View.{View}
use Rattle.prl_seats.proofs.Following.{follows_on, seat_after, stands_here, stays_follows}
use Rattle.prl_seats.proofs.jobs.JobSeat.raise.Goals as goal

pub invariant_of-self : goal.invariant_of-self
invariant_of-self c =
    let at = stands_here c.self.view_is c.requires.seat c.self.invariant.1 in (
      c.raise.ensures.same.2 ∙ c.self.invariant.0,
      follows_on (ap (λ (v : View). v.constants) c.raise.ensures.told ∙ at.known)
          (stays_follows c.args.board.now.known c.self.inside.task.0 _ _ c.self.inside.job c.self.inside.place c.self.inside.stage
          (part_raised (part_at c.args.board.now.known c.self.inside.task.0 c.self.inside.place c.self.inside.seat.me.0)) at.follows c.raise.ensures.told refl),
    )

pub returns-clause-seat : goal.returns-clause-seat
returns-clause-seat c = seat_after _ c.self.view_is c.requires.seat c.raise.ensures.same.0 refl c.raise.ensures.told
