-- where a tick stands
pub mod Scales
-- where a row stands
pub mod Rows
-- attributes with a number
pub mod Texts
-- the windows of jobs as text
pub mod Windows
-- what is cut off
pub mod Cuts
-- rectangles over ticks
pub mod Boxes
-- times in a unit
pub mod Times
