use Rattle.std.proofs.Common.{sym, ◌∙◌}
use Rattle.prl_seats.proofs.Following.{const_follows, follows_on, next_follows, stands_so}
use Rattle.prl_rule.proofs.Reading.{const_no_end}
use Rattle.prl_seats.proofs.jobs.JobSeat.skip.Goals as goal

pub place_after-self-inside-requires-clause-more : goal.place_after-self-inside-requires-clause-more
place_after-self-inside-requires-clause-more c = λ end.
    const_no_end c.requires.reads.0 c.requires.reads.1 (sym (stands_so c.self.view_is c.requires.seat c.self.invariant.1 c.requires.reads.2).follows.shown.2 ∙ end)

pub invariant_of-self : goal.invariant_of-self
invariant_of-self c =
    let at = stands_so c.self.view_is c.requires.seat c.self.invariant.1 c.requires.reads.2 in (
      c.self.invariant.0,
      follows_on at.known (next_follows c.self.inside.place c.place_after-self-inside.ensures c.action.ensures
          (const_follows c.args.board.now.known c.self.inside.task.0 _ c.self.inside.job _ c.requires.reads.0 c.requires.reads.1 at.follows)),
    )
