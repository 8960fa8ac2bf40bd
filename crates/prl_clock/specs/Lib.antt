-- a period and a start as whole numbers, and as ratios of others
pub mod Timings
-- the constraints that a flat program puts on the clocks of its flows, in order
pub mod Constraints
-- clocks of all flows over rational numbers, which of them meet constraints, and when a ratio is past the limit
pub mod Assignments
-- what the clocks of a program are, and why it has none
pub mod Outcomes
-- whole clocks as an assignment
pub mod Whole
-- what private functions say to one another
pub mod code
pub mod Vocabulary
