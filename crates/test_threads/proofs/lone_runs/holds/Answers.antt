use Rattle.test_threads.proofs.Stepped.{first_seats}
use Rattle.test_threads.proofs.lone_runs.holds.Goals as goal

pub holds_on-requires-clause-seats : goal.holds_on-requires-clause-seats
holds_on-requires-clause-seats c = first_seats _ _ c.in_ok-board.ensures.seats
