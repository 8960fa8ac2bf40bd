pub mod CellFaults
pub mod code
pub mod Vocabulary
