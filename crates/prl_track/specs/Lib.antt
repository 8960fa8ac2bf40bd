-- the edges that a task's jobs go through, and where a job stands among them
pub mod Routes
-- tracks: the state without values
pub mod Tracks
-- what is left of a run, as a number
pub mod Lefts
-- events of a plan, and what is told of the halves of cells
pub mod Machine
-- what private functions say to one another
pub mod code
pub mod Vocabulary
