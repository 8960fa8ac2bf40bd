-- the arguments of a command line
pub mod Arguments
-- what private functions say to one another
pub mod code
-- which word of a command line is wrong
pub mod Wrong
-- how it is told
pub mod WrongTexts
-- the words of a command among others
pub mod Dashes
pub mod Vocabulary
