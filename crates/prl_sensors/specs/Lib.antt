-- the rows of sensors that a text has, or why it has none
pub mod SensorRows
-- what holds of the rows of a text
pub mod Facts
-- where actuators end
pub mod Ends
-- what private functions say to one another
pub mod code
