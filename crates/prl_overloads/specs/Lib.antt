-- how ticks that are asked for fall on the tasks
pub mod Shares
-- an overload that is told, and its jobs
pub mod Overloads
-- how they are written
pub mod ShareTexts
