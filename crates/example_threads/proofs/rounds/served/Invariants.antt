use Rattle.std.specs.Vec.{vec_items}
use Rattle.kebrunza.specs.Vocabulary.{AreSeatsOf, ClockPart, IsClockOf}
use Rattle.example_threads.proofs.rounds.served.Given as goal

-- the seats and the clock are those of the board
abbrev pub invariant-loop : goal.invariant-loop
invariant-loop g l = AreSeatsOf l.board (vec_items l.seats) × (r : ClockPart) × IsClockOf l.board l.clock r
