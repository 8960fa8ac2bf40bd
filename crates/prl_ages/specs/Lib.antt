-- chains of tasks, and which instances reach a job
pub mod Chains
pub mod Reaching
-- how old they are there
pub mod Ages
pub mod Spans
pub mod Verdicts
pub mod Reactions
pub mod Settling
pub mod Skews
-- how many jobs of each task a job depends on
pub mod Needs
-- what private functions say to one another
pub mod code
