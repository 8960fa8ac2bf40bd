-- a plan of a sensor and an actuator, and a closed board of it
pub mod Pairs
