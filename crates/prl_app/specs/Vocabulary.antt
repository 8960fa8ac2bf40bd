-- The words of this crate that clauses and proofs use, from one place.
pub use Rattle.prl_app.specs.Endings.{Answers, AsksForThreads, Ends, IsEndOf, IsExact, IsOverrunOf}
pub use Rattle.prl_app.specs.Endings.{HasRead, Means, NoFault, NoneFailed, Outside, ReadsBy}
pub use Rattle.prl_app.specs.code.Performed.{IsWrittenBy, line_is}
