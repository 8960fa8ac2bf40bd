mod Moved
mod Dates
mod Forever
mod Ticks
mod TableRuns
mod Steady
mod Loads
