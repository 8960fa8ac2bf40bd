pub mod Counts
pub mod Multiples
