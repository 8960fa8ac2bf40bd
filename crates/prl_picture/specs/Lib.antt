-- the range of ticks
pub mod Ranges
-- the rows
pub mod Chosen
-- what the words ask for
pub mod Asked
-- the picture
pub mod Pictures
