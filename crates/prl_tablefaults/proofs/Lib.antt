mod Faults
mod Joins
mod LoadParts
mod UnitSums
