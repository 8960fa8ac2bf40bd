use Rattle.std.proofs.Common.{◌≡◌, ◌+◌, ℕ, refl, sym, ap, subst, ◌∙◌, false}
use Rattle.prl_plan.specs.declared.events.Action.TheVariants as actions
use Rattle.prl_rule.specs.Known.{run_of}
use Rattle.prl_rule.specs.declared.views.View.{View}
use Rattle.prl_seats.specs.JobSeats.{Follows, IsStage}
use Rattle.prl_seats.proofs.Following.{end_follows, ended_is, follows_on, seat_after, stands_so}
use Rattle.prl_seats.proofs.jobs.JobSeat.finish.Goals as goal

pub store_done-requires-clause-at : goal.store_done-requires-clause-at
store_done-requires-clause-at c = (stands_so c.self.view_is c.requires.seat c.self.invariant.1 c.requires.end).follows.at

pub store_done-requires-clause-ended : goal.store_done-requires-clause-ended
store_done-requires-clause-ended c =
    let same = ended_is c.args.board.now.known c.self.inside.task.0 c.self.inside.place c.self.inside.seat.me.0 ∙ (stands_so c.self.view_is c.requires.seat c.self.invariant.1 c.requires.end).follows.ended in
    c.from-ended.ensures ∙ (c.tag_of.ensures ∙ ap (λ (n : ℕ). n + 1) (sym same))

pub invariant_of-self : goal.invariant_of-self
invariant_of-self c =
    let at = stands_so c.self.view_is c.requires.seat c.self.invariant.1 c.requires.end in
    let ended : c.from-ended.result ≡ c.self.inside.job + 1 = c.from-ended.ensures ∙ c.tag_of.ensures in (
      c.store_done.ensures.same.2 ∙ c.self.invariant.0,
      follows_on (ap (λ (v : View). v.constants) c.store_done.ensures.told ∙ at.known)
          (subst (λ (z : ℕ). Follows c.args.board.now.known c.store_done.new.seat.me.0 c.self.inside.task.0 z 0 c.stage_before-self-inside.result) (sym ended)
          (end_follows c.args.board.now.known c.self.inside.task.0 _ _ c.self.inside.job _ actions.End c.stage_before-self-inside.result at.follows c.store_done.ensures.told
          (subst (λ (z : ℕ). IsStage (run_of c.args.board.now.known) c.self.inside.task.0 z 0 false c.stage_before-self-inside.result) ended c.stage_before-self-inside.ensures))),
    )

pub returns-clause-seat : goal.returns-clause-seat
returns-clause-seat c = seat_after _ c.self.view_is c.requires.seat c.store_done.ensures.same.0 refl c.store_done.ensures.told
