pub mod Faults
pub mod Flows
pub mod Generated
pub mod Numbered
pub mod Placed
