pub mod Closing
pub mod Laws
pub mod Numbers
-- for the crates above: what stands at the front of a text, and one piece after another
pub mod Fits
pub mod Longest
pub mod Steps
-- for the crates above: each text has an outcome
pub mod Outcomes
-- the laws of reading by grammars, for the crates above
pub mod Basics
pub mod Beginnings
pub mod Growing
pub mod Answers
pub mod Continuing
pub mod Completing
pub mod Nesting
pub mod Whole
pub mod TextTrees
pub mod Loops
pub mod RangeFaults
