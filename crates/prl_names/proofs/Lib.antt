pub mod Absent
pub mod Apart
pub mod Counts
pub mod FirstIndices
pub mod Params
pub mod Repeating
pub mod Rowing
-- for the crates above: the trees of applications and groups, indices of names, which nodes reach one another, and what is known of right names
pub mod Rows
pub mod Marking
pub mod Reaching
pub mod Right
