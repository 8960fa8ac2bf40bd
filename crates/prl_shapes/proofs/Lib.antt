mod Fits
pub mod Counts
