mod Sums
mod Dates
mod Over
mod Endless
mod Steady
mod Lasts
mod Starts
