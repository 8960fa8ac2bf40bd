pub mod Counts
pub mod GraphWords
pub mod code
pub mod Vocabulary
