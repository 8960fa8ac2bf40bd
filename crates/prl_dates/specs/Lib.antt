-- why a graph has no dates
pub mod Faults
pub mod code
pub mod Vocabulary
