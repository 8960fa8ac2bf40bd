pub mod Composition
pub mod Finishing
pub mod Listed
pub mod Progress
pub mod Rates
pub mod Standings
