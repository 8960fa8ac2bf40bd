-- how far two words are apart
pub mod Edits
-- a declared name that is spelt nearly as a word
pub mod Nearest
