use Rattle.kebrunza.specs.Vocabulary.{ClockPart, IsClockOf}
use Rattle.example_threads.proofs.rounds.look_at_all.Given as goal

-- the clock is that of the board
abbrev pub invariant-loop-i : goal.invariant-loop-i
invariant-loop-i l = (r : ClockPart) × IsClockOf l.board l.clock r
