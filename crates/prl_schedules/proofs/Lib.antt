pub mod Lines
mod Numbering
pub mod Dispatching
mod Walking
mod Jobs
mod Told
