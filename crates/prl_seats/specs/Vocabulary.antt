-- The words of this crate that clauses and proofs use, from one place.
pub use Rattle.prl_seats.specs.Boards.{BoardView, IsClosing}
pub use Rattle.prl_seats.specs.JobSeats.{AnswersRelease, Follows, GoesOn, HasFirstPart}
pub use Rattle.prl_seats.specs.JobSeats.{HasPartOf, IsSeatOf}
pub use Rattle.prl_seats.specs.JobSeats.{IsStage, JobSeatView, LoadsHalf}
pub use Rattle.prl_seats.specs.JobSeats.{reseated}
pub use Rattle.prl_seats.specs.Parts.{has_clock, overlap, share_part}
pub use Rattle.prl_seats.specs.code.Joining.{IsLive, joined_apart, refused}
pub use Rattle.prl_seats.specs.declared.jobs.Stage.{Stage}
