pub mod Examples
-- for the crates above: the elements of lists by their numbers, dates of clocks with the values of flows at them, applications and standings
pub mod Lists
pub mod ClockDates
pub mod Applied
pub mod StandingsAt
