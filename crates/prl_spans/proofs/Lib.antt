mod Gated
mod Ticks
mod Runs
mod Tables
