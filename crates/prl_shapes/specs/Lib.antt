-- the ticks and the rows that are drawn
pub mod Views
-- the tasks that act in a run
pub mod Acts
-- what is drawn beside the windows
pub mod Shown
-- the jobs that are shown, and where they stand
pub mod JobsShown
pub mod Shapes
