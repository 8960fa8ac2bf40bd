mod Schedules
mod Preparing
mod TableFaults
mod Summaries
mod Pieces
mod TooMany
