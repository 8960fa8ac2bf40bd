-- The words of this crate that clauses and proofs use, from one place.
pub use Rattle.prl_board.specs.ClockSeats.{AnswersTick, ClockSeatView, IsClockData, IsClockOf}
pub use Rattle.prl_board.specs.Closings.{ClosedView, IsClosed, IsLastState, KeepsTag}
pub use Rattle.prl_board.specs.Lones.{AreSeatsOf, FindsTag, HoldsTag, IsClockCall, IsLoneOf}
pub use Rattle.prl_board.specs.Lones.{IsPlacedAt, IsReleasedBy, IsTaskCall, IsTicked, IsWhole}
pub use Rattle.prl_board.specs.Lones.{LeavesTag, LoneView, StandAs, lent_to, tag_found}
pub use Rattle.prl_board.specs.Openings.{AreFirstSeats, first_clock}
pub use Rattle.prl_board.specs.TaskSeats.{AnswersHalf, AnswersRead, AnswersWrite, IsMachineOf}
pub use Rattle.prl_board.specs.TaskSeats.{IsNodeTask, MayFinish, MayRead, MayRelease, MayWrite}
pub use Rattle.prl_board.specs.TaskSeats.{Misses, ReadsHalf, WritesAction, place_of}
pub use Rattle.prl_board.specs.code.Lent.{AreLent, IsClockReturned, IsElsewhere, IsLeft, IsLent}
pub use Rattle.prl_board.specs.code.Lent.{IsLentClock, IsReturned, IsSettled, KeepHalves}
pub use Rattle.prl_board.specs.code.Lows.{IsLow, Works}
pub use Rattle.prl_board.specs.declared.clocks.Ticked.{Ticked}
pub use Rattle.prl_board.specs.declared.seats.Got.{Got}
pub use Rattle.prl_board.specs.declared.seats.Place.{Place}
pub use Rattle.prl_board.specs.declared.seats.Wrote.{Wrote}
