mod Contents
pub mod Asked
mod Found
mod Inputs
pub mod Schedules
pub mod Stops
