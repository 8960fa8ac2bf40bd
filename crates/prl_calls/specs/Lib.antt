-- What the stages are asked about, and what their stops say.
pub mod Stops
-- What private functions say to one another.
pub mod code
