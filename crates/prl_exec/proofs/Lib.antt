-- For the crates above: what each call of the thread that holds all seats leaves of how it stands in its run.
pub mod Standing
pub mod Finding
pub mod Calls
pub mod Rounds
-- For this crate alone.
mod Holding
mod Noting
mod Dealt
mod Missing
mod Stopping
