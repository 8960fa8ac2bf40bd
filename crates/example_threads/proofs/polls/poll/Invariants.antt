use Rattle.std.proofs.Common.{◌≡◌}
use Rattle.kebrunza.specs.Vocabulary.{IsSeatOf}
use Rattle.example_threads.proofs.polls.poll.Given as goal

-- the seat is the task's, and belongs to the board
abbrev pub invariant-loop : goal.invariant-loop
invariant-loop l = IsSeatOf l.board l.seat × (l.seat.task ≡ l.initial.seat.task)
