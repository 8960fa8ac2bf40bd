-- What the files of a command give.
pub mod Given
-- The program and the bodies that the texts are.
pub mod Parts
-- The flat program, that it has no cycle, and its clocks.
pub mod Flattened
-- The rows of the sensors, the values, and the text of what is computed.
pub mod Runs
-- The plan of a program, and what is written of it.
pub mod Planned
-- The horizon of a plan, and the schedule that is written for it.
pub mod Scheduled
-- Whether one processor can meet the dates of a plan.
pub mod Feasible
-- Which schedules are refused, and the text of a replay.
pub mod Replayed
-- the static cyclic table of a plan
pub mod Tabled
-- a run on several processors
pub mod Placed
-- The stages, and the modes as lists of them.
pub mod Stages
-- What a command has run.
pub mod Ran
-- What a mode needs of the bodies of a text.
pub mod Needs
-- The plan of a program alone.
pub mod PlansAlone
-- How the faults of the crates below are told.
pub mod Told
-- what private functions say to one another
pub mod code
pub mod Vocabulary
