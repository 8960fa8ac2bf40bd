-- What a poll of a task leaves.
use Rattle.std.specs.Prelude.{◌≡◌, Bool, true, false, Option, Some, None}
use Rattle.prl_seats.specs.JobSeats.{IsSeatOf, JobSeatView}
use Rattle.prl_seats.specs.Boards.{BoardView}

-- a slot for a task's seat after a poll
abbrev pub IsSlotPolled : BoardView → Option JobSeatView → Option JobSeatView → Type 0
IsSlotPolled b (Some s) (Some t) = IsSeatOf b t × (t.task ≡ s.task)
IsSlotPolled b (Some s) None = ⊥
IsSlotPolled b None (Some t) = ⊥
IsSlotPolled b None None = Unit {0}

-- a slot holds no seat, or one of the board
abbrev pub IsSlotOf : BoardView → Option JobSeatView → Type 0
IsSlotOf b (Some s) = IsSeatOf b s
IsSlotOf b None = Unit {0}

-- a slot into which a seat is put, if there is one
abbrev pub IsPut : Option JobSeatView → Option JobSeatView → Option JobSeatView → Type 0
IsPut before (Some s) after = after ≡ Some s
IsPut before None after = after ≡ before

-- a seat is taken out of a slot, where it is one's own
abbrev pub IsTaken : Bool → Option JobSeatView → Option JobSeatView → Option JobSeatView → Type 0
IsTaken true before after seat = (seat ≡ before) × (after ≡ None)
IsTaken false before after seat = (seat ≡ None) × (after ≡ before)
