use Rattle.std.proofs.Common.{◌≡◌, length}
use Rattle.prl_board.specs.Lones.{IsLoneOf}
use Rattle.test_threads.proofs.lone_runs.play.Given as goal

-- the one thread belongs to the board, and has both tasks
abbrev pub invariant-loop-n : goal.invariant-loop-n
invariant-loop-n g l = record {
  lone : IsLoneOf l.board l.lone;
  tasks : length l.lone.seats ≡ length l.initial.lone.seats;
}
