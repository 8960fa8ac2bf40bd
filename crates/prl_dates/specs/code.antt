-- What private functions say to one another.
pub mod Indices
pub mod Families
pub mod Lanes
pub mod Tables
pub mod Windows
pub mod Runs
pub mod Turns
pub mod Spreads
pub mod Exits
pub mod Leaps
