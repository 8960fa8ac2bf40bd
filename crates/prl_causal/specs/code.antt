pub mod Parts
pub mod Ranks
pub mod Searches
pub mod Sorting
pub mod Sources
pub mod Ways
