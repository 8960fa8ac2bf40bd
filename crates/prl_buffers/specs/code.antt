-- What private functions say to one another.
pub mod Turns
pub mod Edges
pub mod Tables
