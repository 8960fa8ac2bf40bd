-- For the crates above: a board may be shared.
pub mod Crossing
-- For the crates above: how a task's seat follows its view, over what is seen of both.
pub mod Following
mod Joining
