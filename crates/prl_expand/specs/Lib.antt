-- the expansion of a program: its text with numbers at its places
pub mod Expansions
-- the flat program of an expansion
pub mod Flats
-- two kinds of things that correspond one to one
pub mod Correspondence
-- that a flat program leaves one choice of clocks
pub mod Clocks
-- flows with a name on cycles
pub mod Cycles
-- what the call answers
pub mod Expanding
-- what private functions say to one another
pub mod code
pub mod Vocabulary
