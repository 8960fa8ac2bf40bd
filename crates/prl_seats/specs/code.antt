-- What private functions say to one another.
pub mod Kept
pub mod Joining
