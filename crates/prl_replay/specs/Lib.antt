-- what it is to replay a schedule
pub mod Replays
-- the flows of main's outputs
pub mod Outputs
-- What a closed board shows of the actuators.
pub mod Shown
pub mod Vocabulary
