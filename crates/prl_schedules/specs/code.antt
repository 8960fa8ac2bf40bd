pub mod Numbers
pub mod Dates
pub mod Walks
