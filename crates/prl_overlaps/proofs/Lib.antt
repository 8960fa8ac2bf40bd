mod FourTests
pub mod Spotted
pub mod Listed
pub mod Swaps
pub mod Sums
pub mod Within
pub mod Starts
