use Rattle.prl_seats.proofs.Following.{known_once}
use Rattle.prl_board.proofs.SeatReads.{Keeps, first_kept}
use Rattle.prl_board.proofs.seats.TaskSeat.first.Goals as goal

pub invariant_of-result : goal.invariant_of-result
invariant_of-result c =
    known_once c.first.result.view c.args.board.now.known (λ k. Keeps k c.first.result 0 c.in_ok-worker.worker) c.first.ensures.seat.known
    (first_kept c.args.board.now.known c.first.result c.in_ok-worker.worker c.args.task c.first.ensures.first c.in_ok-worker.ensures)
