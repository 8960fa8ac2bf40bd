-- lists of tasks
pub mod Names
-- the options of a command line
pub mod Options
-- what is told, row by row
pub mod Rows
-- rows above a limit
pub mod Limits
-- what the words ask for
pub mod Told
-- why nothing is told
pub mod Refused
-- what a call answers
pub mod Answers
