-- lines and columns
pub mod Places
-- where a name stands in a program
pub mod Names
-- the byte that a line speaks of
pub mod Spots
-- where a name stands that is there twice
pub mod Twice
-- what stands where something else has to
pub mod Unexpected
-- how many inputs and outputs a node declares
pub mod Counted
