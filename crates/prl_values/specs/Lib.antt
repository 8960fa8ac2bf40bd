-- what jobs read and give
pub mod JobValues
-- the bodies and the rows that a graph needs
pub mod Fitting
-- when a body runs
pub mod BodyRuns
-- what a worker keeps, asks for and does
pub mod Workers
pub mod Vocabulary
