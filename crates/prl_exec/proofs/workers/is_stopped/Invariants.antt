use Rattle.std.specs.Vec.{vec_items}
use Rattle.prl_exec.specs.code.Hands.{AreHeld, KeepSeats}
use Rattle.prl_exec.proofs.workers.is_stopped.Given as goal

-- the seats are those that were there
abbrev pub invariant-loop-i : goal.invariant-loop-i
invariant-loop-i l = record {
  held : AreHeld l.board (vec_items l.seats);
  kept : KeepSeats (vec_items l.fn.seats) (vec_items l.seats);
}
