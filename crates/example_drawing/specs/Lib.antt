-- a bar for each task
pub mod Bars
