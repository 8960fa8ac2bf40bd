-- from the entries of a table to the slots of its frame
pub mod Making
