-- For the crates above: what each kind of step does is granted by the rule, and what it tells.
pub mod Granted
-- For the crates above: what is granted, the table allows.
pub mod Allowed
-- For the crates above: the parts of views.
pub mod Parts
-- For the crates above: what stands before the read of a high half.
pub mod Reading
-- For the crates above: the tag of a word.
pub mod HalfSteps
-- For the crates above: the edge of a cell.
pub mod CellEdges
mod Exact
mod ValueSteps
mod Keeps
mod Catching
mod JobSteps
mod ClockSteps
mod StopSteps
mod SeatSteps
mod Opens
mod Telling
mod Caught
mod RunFacts
