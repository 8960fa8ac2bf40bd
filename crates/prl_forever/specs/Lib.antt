-- whether one processor serves for ever
pub mod Forever
-- the timed run that a table tells
pub mod TableRuns
-- what is found of a plan
pub mod Answers
