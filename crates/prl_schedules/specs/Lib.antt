pub mod Schedules
pub mod Dispatches
pub mod ScheduleTexts
pub mod ReadTexts
-- what a broken rule is about
pub mod Causes
-- what a job has left to do
pub mod Lefts
-- how it is written
pub mod CauseTexts
-- what private functions say to one another
pub mod code
pub mod Vocabulary
