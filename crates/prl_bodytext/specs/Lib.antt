-- The keywords and symbols, and the parts of trees.
pub mod Words
pub mod Trees
-- The grammar, and the ranges of its numbers.
pub mod Grammar
pub mod Ranges
-- Which texts are bodies, and the first fault of the others.
pub mod Parsing
-- What private functions say to one another.
pub mod code
