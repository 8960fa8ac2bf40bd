-- Where a task stands, by the place that is told of it.
use Rattle.prl_base.proofs.Standard.{◌≡◌, ◌<◌, ℕ, length, subst, Some, slice_get}
use Rattle.prl_board.specs.Vocabulary.{IsPlacedAt, LoneView, place_of}
use Rattle.prl_board.specs.declared.seats.Place.{Place}
use Rattle.prl_seats.specs.JobSeats.{JobSeatView}
use Rattle.prl_board.proofs.Lists.{seat_there}

pub placed : (may : Place → Type 0) (l : LoneView) (i : ℕ) (place : Place) → i < length l.seats → ((s : JobSeatView) → slice_get l.seats i ≡ Some s → place ≡ place_of s.stage) → may place →
    IsPlacedAt may l i
placed may l i place below is ok = let seat = seat_there l.seats i below in (seat.0, seat.1, subst may (is seat.0 seat.1) ok)
