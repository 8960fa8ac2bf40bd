-- The lines on err.
pub mod ErrorLines
-- What comes of a command before its text is written.
pub mod Answers
-- Statuses, and what err says.
pub mod Statuses
-- What private functions say to one another.
pub mod code
pub mod Vocabulary
