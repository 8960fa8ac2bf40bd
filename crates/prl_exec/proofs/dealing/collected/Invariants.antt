use Rattle.std.specs.Prelude.{◌≡◌, ◌≤◌, ℕ, Some, length, slice_get, vec_capacity}
use Rattle.std.specs.Vec.{vec_items}
use Rattle.prl_seats.specs.JobSeats.{JobSeatView}
use Rattle.prl_exec.proofs.dealing.collected.Given as goal

-- the seats so far stand in the room
abbrev pub invariant-loop-i : goal.invariant-loop-i
invariant-loop-i l = record {
  wide : length (vec_items l.all) ≡ length (vec_items l.fn.all);
  long : length (vec_items l.room) ≡ l.i;
  capacity : vec_capacity l.room ≡ vec_capacity l.fn.room;
  rest : (j : ℕ) → l.i ≤ j → slice_get (vec_items l.all) j ≡ slice_get (vec_items l.fn.all) j;
  each : (j : ℕ) (s : JobSeatView) → slice_get (vec_items l.room) j ≡ Some s → slice_get (vec_items l.fn.all) j ≡ Some (Some s);
}
