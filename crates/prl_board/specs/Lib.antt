-- where a task's seat stands, and what its reads answer
pub mod TaskSeats
-- what is seen of the clock's seat
pub mod ClockSeats
-- what stands at the opening
pub mod Openings
-- what is seen of one thread that holds all seats
pub mod Lones
-- what a closed board shows
pub mod Closings
-- what private functions say to one another
pub mod code
pub mod Vocabulary
