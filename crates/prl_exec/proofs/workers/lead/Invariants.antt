use Rattle.std.specs.Vec.{vec_items}
use Rattle.prl_rule.specs.declared.views.ClockPart.{ClockPart}
use Rattle.prl_board.specs.ClockSeats.{IsClockOf}
use Rattle.prl_exec.specs.code.Hands.{AreHeld, KeepSeats}
use Rattle.prl_exec.proofs.workers.lead.Given as goal

-- the seats are those that were there
abbrev pub invariant-loop : goal.invariant-loop
invariant-loop g l = record {
  held : AreHeld l.board (vec_items l.seats);
  kept : KeepSeats (vec_items l.fn.seats) (vec_items l.seats);
  clock : (r : ClockPart) × IsClockOf l.board l.clock r;
}
