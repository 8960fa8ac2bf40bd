-- which tasks run where, and when their jobs are released
pub mod Spreads
-- texts of processors
pub mod Processors
