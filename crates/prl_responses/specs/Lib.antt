-- how soon the jobs of a task end in a run
pub mod Responses
-- what private functions say to one another
pub mod code
