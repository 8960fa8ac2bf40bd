-- entries that clash, and the first that do
pub mod Overlaps
pub mod FirstClashes
-- demand of intervals
pub mod Demand
-- what private functions say to one another
pub mod code
pub mod Vocabulary
