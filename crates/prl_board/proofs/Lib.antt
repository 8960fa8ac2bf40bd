-- For the crates above: lists of which one place is read or set.
pub mod Lists
mod Unseen
mod Opened
mod Lows
mod TaskPlaces
mod Worked
mod ClockAfter
mod SeatReads
mod HalfReads
mod Begun
mod Merging
mod Lending
mod ClosedBoards
mod Actuators
mod Outputs
mod Called
mod Found
