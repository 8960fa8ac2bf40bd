use Rattle.prl_base.proofs.Standard.{◌≡◌, ◌<◌, ◌≤◌, ℕ, length, vec_items, Some, slice_get}
use mathlib.Core.Option.{some}
use lib.ListN.{get_elem?}
use Rattle.prl_rule.specs.Told.{part_of}
use Rattle.prl_rule.specs.declared.views.ClockPart.{ClockPart}
use Rattle.prl_seats.specs.JobSeats.{JobSeatView, StaysAt}
use Rattle.prl_board.specs.code.Lent.{IsLent}
use Rattle.prl_board.proofs.lone.take_in_all.Given as goal

-- the seats so far have lent their parts, and the others stand as they stood
abbrev pub invariant-loop-i : goal.invariant-loop-i
invariant-loop-i l = record {
  table : l.whole.table_id ≡ l.initial.whole.table_id;
  slots : l.whole.me.1 ≡ l.initial.whole.me.1;
  known : l.whole.me.0.constants ≡ Some l.board.known;
  clock : (r : ClockPart) → l.initial.whole.me.0.clock ≡ Some r → l.whole.me.0.clock ≡ Some r;
  long : length (vec_items l.seats) ≡ length (vec_items l.initial.seats);
  done : (j : ℕ) (s : JobSeatView) → j < l.i → slice_get (vec_items l.seats) j ≡ Some s → IsLent l.board.known l.whole.me.0 j s;
  parts : (j : ℕ) (s : JobSeatView) → j < l.i → slice_get (vec_items l.initial.seats) j ≡ Some s → get_elem? l.whole.me.0.tasks j ≡ some (Some (part_of j s.view));
  stand : (j : ℕ) (s : JobSeatView) → slice_get (vec_items l.initial.seats) j ≡ Some s → (t : JobSeatView) × (slice_get (vec_items l.seats) j ≡ Some t) × (t.task ≡ s.task) × StaysAt s t;
  rest : (j : ℕ) → l.i ≤ j → slice_get (vec_items l.seats) j ≡ slice_get (vec_items l.initial.seats) j;
}
