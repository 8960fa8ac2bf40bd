pub mod Steps
pub mod Instances
pub mod Examples
pub mod Trees
pub mod Ranges
