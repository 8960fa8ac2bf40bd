-- frames, and what a frame says of a table
pub mod Frames
-- what private functions say to one another
pub mod code
