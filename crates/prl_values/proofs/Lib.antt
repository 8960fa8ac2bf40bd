mod Settled
mod Typed
mod Steps
-- For the crates above: lemmas over public definitions.
pub mod Operands
pub mod PortReads
pub mod TaskNames
pub mod Working
pub mod Serving
