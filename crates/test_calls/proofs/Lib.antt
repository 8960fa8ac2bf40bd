mod EvenUnits
mod Jobs
mod Served
