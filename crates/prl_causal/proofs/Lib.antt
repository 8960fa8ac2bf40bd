pub mod Wholes
pub mod Made
-- for the crates above: lists, texts with other things at their places, their one shape, and behaviours of states
pub mod Elements
pub mod Marks
pub mod Shapes
pub mod States
-- for the crates above: what definitions read, the one table that is fixed, and solutions as tables
pub mod Earlier
pub mod Rounds
pub mod Solved
pub mod Listed
pub mod Typed
pub mod Registers
pub mod OwnBodies
pub mod Ones
-- of causality
mod Arriving
mod Cycles
mod Labels
mod Lists
mod Ways
mod Meanings
mod Placing
mod Reached
mod Runs
mod Searching
mod Sorting
mod Unplaced
mod Ranking
