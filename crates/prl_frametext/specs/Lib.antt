-- lines of a frame
pub mod Texts
-- a frame as JSON
pub mod Objects
