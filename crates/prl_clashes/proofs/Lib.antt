mod Joins
mod LinkFacts
mod WayFacts
