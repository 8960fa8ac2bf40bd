mod Joins
mod Sayings
mod Within
