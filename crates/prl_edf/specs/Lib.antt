-- timed runs, those by earliest deadline first, and the windows that they meet
pub mod TimedRuns
pub mod MetWindows
pub mod EdfRuns
-- timed runs as pieces, and as lists of events
pub mod Pieces
pub mod Unrolled
-- units as lists
pub mod UnitLists
-- what the plain run with some units comes to, and what the analysis tells
pub mod Outcomes
pub mod Verdicts
-- the line that tells it
pub mod VerdictTexts
-- what private functions say to one another
pub mod code
pub mod Vocabulary
