use Rattle.prl_seats.proofs.Following.{known_once}
use Rattle.prl_board.proofs.SeatReads.{Keeps, stays_kept}
use Rattle.prl_board.proofs.HalfReads.{keeps_here}
use Rattle.prl_board.proofs.seats.TaskSeat.raise.Goals as goal

pub invariant_of-self : goal.invariant_of-self
invariant_of-self c =
    let kept = keeps_here c.self.view_is c.requires.seat c.self.invariant in
    known_once c.raise.new.self.view c.args.board.now.known (λ k. Keeps k c.raise.new.self c.self.inside.low c.self.inside.worker) c.raise.ensures.seat.known (stays_kept c.args.board.now.known c.self.inside.job c.raise.new.self c.self.inside.low c.self.inside.worker c.raise.ensures.same c.raise.ensures.stays kept)
