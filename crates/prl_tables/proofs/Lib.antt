pub mod Unrolling
mod GoodTables
mod OneFault
pub mod Ends
pub mod Shifts
mod TextLines
mod ReadBack
mod Early
mod Summed
pub mod Ordering
pub mod OrderLaws
mod SomeFault
