-- where entries stand in the hyperperiod
pub mod Spots
-- demand by tick
pub mod Starts
