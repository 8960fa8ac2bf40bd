-- What private functions say to one another.
pub mod Graphs
pub mod Checks
pub mod Planned
