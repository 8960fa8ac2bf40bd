-- the run over all jobs
pub mod Endless
-- how soon its jobs end
pub mod Times
-- the part of each task in an overload and in the load
pub mod Shares
