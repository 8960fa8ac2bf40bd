-- what the ticks of a run go to
pub mod Ticks
-- how one thread stands that does the list of a table
pub mod Driving
-- the laws on which it rests that a plan has one table
pub mod MakeLaws
