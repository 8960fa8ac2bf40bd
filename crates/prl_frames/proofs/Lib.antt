mod Spanned
mod Ticks
mod Places
mod Orders
mod Joins
mod Marks
mod Frames
