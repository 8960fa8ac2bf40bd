-- the options of a command line
pub mod Options
-- what is told
pub mod Told
-- why nothing is told
pub mod Refused
-- what a call answers
pub mod Answers
