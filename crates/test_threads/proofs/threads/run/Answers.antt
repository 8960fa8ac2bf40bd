use Rattle.test_threads.proofs.Stepped.{first_seats}
use Rattle.test_threads.proofs.threads.run.Goals as goal

pub shown_after-seen-requires-clause-seats : goal.shown_after-seen-requires-clause-seats
shown_after-seen-requires-clause-seats g c κs within = first_seats _ _ c.in_ok-board.ensures.seats
