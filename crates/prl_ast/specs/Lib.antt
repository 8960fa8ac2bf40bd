pub mod Trees
pub mod InRange
pub mod Vocabulary
