use Rattle.kebrunza.specs.Vocabulary.{ClockPart, IsClockOf}
use Rattle.example_threads.proofs.rounds.go_on.Given as goal

-- the clock is that of the board
abbrev pub invariant-loop : goal.invariant-loop
invariant-loop l = (r : ClockPart) × IsClockOf l.board l.clock r
