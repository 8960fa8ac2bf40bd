-- What a call of the command says.
pub mod Endings
-- What private functions say to one another.
pub mod code
pub mod Vocabulary
