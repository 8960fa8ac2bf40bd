use Rattle.std.proofs.Common.{vec_items}
use Rattle.prl_rule.specs.declared.views.ClockPart.{ClockPart}
use Rattle.prl_board.specs.Vocabulary.{IsClockOf, AreSeatsOf}
use Rattle.test_threads.proofs.seats.play.Given as goal

-- the seats belong to the board
abbrev pub invariant-loop-n : goal.invariant-loop-n
invariant-loop-n l = record {
  seats : AreSeatsOf l.board (vec_items l.seats);
  clock : (r : ClockPart) × IsClockOf l.board l.clock r;
}
