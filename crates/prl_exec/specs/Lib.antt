-- how one thread that holds all seats of a board stands in a run
pub mod Standing
-- what a run has come to
pub mod Runs
-- what private functions say to one another
pub mod code
pub mod Vocabulary
