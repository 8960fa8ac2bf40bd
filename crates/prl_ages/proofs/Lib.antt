pub mod Operands
pub mod Reaching
mod Counted
mod Falling
mod SpanJobs
mod Lagging
mod Freshest
mod Reacting
mod CutWays
mod Settled
mod Turning
mod Windows
mod GreatestSkews
