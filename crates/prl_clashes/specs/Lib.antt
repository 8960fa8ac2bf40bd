-- which flows have clocks over one another
pub mod Links
-- clocks along ways
pub mod ClockWays
-- how ways are written
pub mod ClashTexts
