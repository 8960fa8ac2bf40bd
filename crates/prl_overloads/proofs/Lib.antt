mod Costs
mod Joins
