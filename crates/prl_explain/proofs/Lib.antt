mod Lefts
mod Lines
mod Loads
mod Named
mod Plans
mod Readings
mod Stops
mod Sayings
