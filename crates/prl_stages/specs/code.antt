-- that what the stages find is one
pub mod Ones
-- that whole lists of events are there, and are replayed
pub mod Wholes
-- that what runs tell is of the one behaviour
pub mod Runnings
