pub mod Parses
pub mod Loops
pub mod Links
pub mod Nodes
pub mod Outcomes
