-- the kinds of lines
pub mod Kinds
-- what is said of a line
pub mod Sentences
