use Rattle.std.specs.Prelude.{◌≡◌, ◌<◌, ◌≤◌, ℕ, Some, length, slice_get}
use Rattle.std.specs.Vec.{vec_items}
use Rattle.prl_seats.specs.JobSeats.{JobSeatView}
use Rattle.prl_exec.specs.code.Hands.{Has}
use Rattle.prl_exec.proofs.dealing.slots.Given as goal

-- the seats from here on stand in their slots
abbrev pub invariant-loop-seat : goal.invariant-loop-seat
invariant-loop-seat l = record {
  wide : length (vec_items l.all) ≡ length (vec_items l.fn.seats);
  few : length (vec_items l.seats) ≤ length (vec_items l.fn.seats);
  rest : (j : ℕ) (s : JobSeatView) → slice_get (vec_items l.seats) j ≡ Some s → slice_get (vec_items l.fn.seats) j ≡ Some s;
  has : (j : ℕ) → length (vec_items l.seats) ≤ j → j < length (vec_items l.fn.seats) → Has (vec_items l.all) j;
  each : (j : ℕ) (s : JobSeatView) → slice_get (vec_items l.all) j ≡ Some (Some s) → slice_get (vec_items l.fn.seats) j ≡ Some s;
}

abbrev pub decreases-loop-seat : goal.decreases-loop-seat
decreases-loop-seat l = length (vec_items l.seats)
