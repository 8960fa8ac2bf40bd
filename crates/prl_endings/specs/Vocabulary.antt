-- The words of this crate that clauses and proofs use, from one place.
pub use Rattle.prl_endings.specs.Answers.{AsksBy, IsAnswer, IsAnswerOf, IsAnswerStop, files_of}
pub use Rattle.prl_endings.specs.ErrorLines.{line_of}
pub use Rattle.prl_endings.specs.Statuses.{IsTold, ran_of, status_of}
pub use Rattle.prl_endings.specs.code.Modes.{HasFiles}
