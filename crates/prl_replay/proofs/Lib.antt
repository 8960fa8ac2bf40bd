mod Runs
mod Actuators
-- for the crates above: what holds of a whole run at its end
pub mod Ends
mod Legality
mod OneEnd
mod Outputs
mod Traces
mod Results
