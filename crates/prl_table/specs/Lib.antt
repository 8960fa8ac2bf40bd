-- tables made of a run
pub mod Made
-- at which ticks one thread has done the jobs
pub mod Noted
-- what is made of a plan, and why nothing is
pub mod MakeFaults
-- what private functions say to one another
pub mod code
pub mod Vocabulary
