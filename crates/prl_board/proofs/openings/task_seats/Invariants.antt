use Rattle.prl_base.proofs.Standard.{◌≡◌, ℕ, length, vec_items, Some, slice_get}
use Rattle.prl_seats.specs.JobSeats.{IsFirstSeat, IsSeatOf, JobSeatView}
use Rattle.prl_board.specs.Openings.{AreLeft}
use Rattle.prl_board.proofs.openings.task_seats.Given as goal

-- the seats of the tasks so far, and the parts that are left
abbrev pub invariant-loop-i : goal.invariant-loop-i
invariant-loop-i l = record {
  table : l.seat.table_id ≡ l.board.table;
  same : l.seat.me.1 ≡ l.initial.seat.me.1;
  left : AreLeft l.board.known l.i l.seat.me.0;
  long : length (vec_items l.seats) ≡ l.i;
  each : (j : ℕ) (s : JobSeatView) → slice_get (vec_items l.seats) j ≡ Some s → IsSeatOf l.board s × IsFirstSeat l.board.known (record { 0 = j }) s;
}
