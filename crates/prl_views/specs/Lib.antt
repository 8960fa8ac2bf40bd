-- the parts of ticks that a run on processors is drawn in
pub mod Parts
-- the pieces of a run or a table
pub mod Pieces
-- for how many ticks the processor is busy
pub mod Loads
-- the picture
pub mod Drawn
