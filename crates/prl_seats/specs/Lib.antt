-- what is seen of a board
pub mod Boards
-- which parts two views share
pub mod Parts
-- what is seen of a task's seat of the table
pub mod JobSeats
-- what private functions say to one another
pub mod code
pub mod Vocabulary
