-- the sensors of a plan
pub mod Inputs
-- the flows and the range that the words ask for
pub mod Asked
-- the plots
pub mod Answers
-- the rows of flows
pub mod Rows
-- tables by name
pub mod Places
