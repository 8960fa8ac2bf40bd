pub mod Spelled
pub mod Names
pub mod Walked
pub mod Numerals
pub mod Agreement
pub mod Taken
