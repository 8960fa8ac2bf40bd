pub mod Marks
pub mod Made
pub mod Multiples
pub mod Steps
pub mod Back
