-- What private functions say to one another.
pub mod Lows
pub mod Lent
