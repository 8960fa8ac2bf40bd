-- what calendars tell
pub mod Calendars
-- clocks that are equal, by their places
pub mod Kinds
-- the next dates of kinds of clocks
pub mod Turns
