use Rattle.kebrunza.proofs.Seats.{first_seats}
use Rattle.example_threads.proofs.rounds.closed_after.Goals as goal

pub served-seats-requires-clause-seats : goal.served-seats-requires-clause-seats
served-seats-requires-clause-seats g c κs outlives = first_seats _ _ c.in_ok-board.ensures.seats
