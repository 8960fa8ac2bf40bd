-- a program's text with something at each place that makes a flow
pub mod Annotations
-- which annotations are those of a node's text
pub mod Texts
-- what the text asks of what stands at its places
pub mod Asked
-- behaviours: what a program means
pub mod Behaviours
-- the values of all flows by instance: what definitions make of them, and which of them they read
pub mod Tables
-- that exactly one thing has a property
pub mod Uniqueness
-- what the laws ask of bodies and of the rows of sensors, and what they say of the types of values
pub mod Conditions
-- flows on cycles, and what the check of causality answers
pub mod Cycles
-- what private functions say to one another
pub mod code
pub mod Vocabulary
