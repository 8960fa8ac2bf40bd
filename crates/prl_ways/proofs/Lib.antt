mod Edges
mod Ends
mod Joins
