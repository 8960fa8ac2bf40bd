use Rattle.prl_seats.proofs.Following.{known_once}
use Rattle.prl_board.proofs.SeatReads.{Keeps, stays_kept}
use Rattle.prl_board.proofs.HalfReads.{keeps_here}
use Rattle.prl_board.proofs.seats.TaskSeat.stopped.Goals as goal

pub invariant_of-self : goal.invariant_of-self
invariant_of-self c =
    let kept = keeps_here c.self.view_is c.requires.seat c.self.invariant in
    known_once c.stopped.new.self.view c.args.board.now.known (λ k. Keeps k c.stopped.new.self c.self.inside.low c.self.inside.worker) c.stopped.ensures.seat.known (stays_kept c.args.board.now.known c.self.inside.job c.stopped.new.self c.self.inside.low c.self.inside.worker c.stopped.ensures.same c.stopped.ensures.stays kept)
