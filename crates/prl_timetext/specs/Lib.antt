-- the names of tasks in words and lines
pub mod Names
-- rows as lines and as JSON
pub mod Texts
pub mod Objects
