-- the definitions that the contracts name
pub mod Vocabulary
