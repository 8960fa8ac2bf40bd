-- What private functions say to one another.
pub mod Steps
pub mod Shortest
pub mod Holding
