-- jobs and entries in words
pub mod EntryTexts
-- what is told of a table that is not good
pub mod FaultTexts
-- overloads and loads
pub mod LoadTexts
