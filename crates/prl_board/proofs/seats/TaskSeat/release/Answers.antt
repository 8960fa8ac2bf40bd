use Rattle.std.proofs.Common.{sym, subst}
use Rattle.prl_seats.specs.JobSeats.{JobSeatView}
use Rattle.prl_board.specs.TaskSeats.{MayRelease, place_of}
use Rattle.prl_seats.proofs.Following.{known_once, stands_here}
use Rattle.prl_board.proofs.Lows.{low_released}
use Rattle.prl_board.proofs.SeatReads.{Keeps, release_kept}
use Rattle.prl_board.proofs.TaskPlaces.{released_is_shut}
use Rattle.prl_board.proofs.HalfReads.{keeps_here}
use Rattle.prl_board.proofs.seats.TaskSeat.release.Goals as goal

pub release-requires-clause-shut : goal.release-requires-clause-shut
release-requires-clause-shut c = released_is_shut c.self.inside.job.stage (subst (λ (v : JobSeatView). MayRelease (place_of v.stage)) (sym c.self.view_is) c.requires.place)

pub invariant_of-self : goal.invariant_of-self
invariant_of-self c =
    let here = stands_here c.self.view_is c.requires.seat c.stands.ensures in
    let kept = keeps_here c.self.view_is c.requires.seat c.self.invariant in
    known_once c.release.new.self.view c.args.board.now.known (λ k. Keeps k c.release.new.self c.self.inside.low c.self.inside.worker) c.release.ensures.seat.known (release_kept c.args.board.now.known c.self.inside.job c.release.new.self c.self.inside.low c.self.inside.worker c.release.result
    c.release.ensures.same c.release.ensures.answer c.release.ensures.place (low_released c.args.board.now.known c.keeps_facts.ensures c.self.inside.job c.release.new.self c.release.result c.self.inside.low here.follows.task c.release.ensures.answer kept.0) kept.1)
