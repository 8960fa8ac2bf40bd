-- the files that the words name
pub mod Texts
-- tasks, and lines that place none
pub mod Placings
-- what is told by the plan
pub mod Details
-- what is written
pub mod Explanations
