-- lemmas on the seats of a board
pub mod Seats
-- a board may be shared by threads
pub mod Crossing
-- what a run needs
pub mod Ready
