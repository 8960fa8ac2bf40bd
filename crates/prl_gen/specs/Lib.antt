-- texts numbered from 0, one after another
pub mod Numbered
-- the draw of numbers
pub mod Draws
-- the periods, factors and values that are drawn
pub mod Lanes
-- the program, its bodies and its sensor rows
pub mod Texts
pub mod Vocabulary
