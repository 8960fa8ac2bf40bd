-- counts that are still rising
pub mod Rising
-- the worst and the best ages of some jobs
pub mod Extremes
-- after how many hyperperiods a job depends on a task
pub mod Lags
-- the greater of two skews
pub mod Farther
-- when all depends on all that it ever does, and has settled
pub mod Windows
