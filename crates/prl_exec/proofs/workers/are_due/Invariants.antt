use Rattle.prl_rule.specs.declared.views.ClockPart.{ClockPart}
use Rattle.prl_board.specs.ClockSeats.{IsClockOf}
use Rattle.prl_exec.proofs.workers.are_due.Given as goal

abbrev pub invariant-loop-i : goal.invariant-loop-i
invariant-loop-i l = (r : ClockPart) × IsClockOf l.board l.clock r
