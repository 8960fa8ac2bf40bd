-- The tokens of a text.
pub mod Tokens
pub mod Lexing
pub mod FirstByte
pub mod Digits
-- The tokens of a text as a grammar sees them.
pub mod Lexemes
pub mod Classes
-- Grammars: relations between tokens and trees, and data that stand for them.
pub mod Grammars
pub mod Productions
pub mod Combinators
pub mod Language
-- The first unexpected token, and the numbers.
pub mod Whole
pub mod Numbers
pub mod Ranges
-- The tree of a text, or its first fault.
pub mod Texts
-- What private functions say to one another.
pub mod code
pub mod Vocabulary
