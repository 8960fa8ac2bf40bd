-- What private functions say to one another.
-- polls of the one thread that holds all seats
pub mod Alone
-- the seats that a worker has, and what it gives back
pub mod Hands
-- polls of a worker, and seats dealt and put back
pub mod Polls
-- a read that was overrun, once more by the one thread
pub mod Overruns
