-- The keywords and symbols, and the tokens of a text.
pub mod Words
-- The values of numbers, and the parts of trees.
pub mod Values
pub mod Trees
-- The grammar, and the ranges of its numbers.
pub mod Grammar
pub mod Ranges
-- Which texts are programs, and the first fault of the others.
pub mod Parsing
-- What private functions say to one another.
pub mod code
pub mod Vocabulary
