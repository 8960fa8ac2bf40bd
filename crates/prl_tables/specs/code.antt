-- what the entries of a class come to
pub mod Sums
