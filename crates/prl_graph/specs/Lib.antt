-- tasks and their dues
pub mod Ports
pub mod Dues
pub mod Tasks
-- edges, and the values on them
pub mod Edges
pub mod EdgeValues
pub mod JobDates
-- the hyperperiod, the graph, and why there is none
pub mod Hyperperiods
pub mod TaskGraphs
-- what private functions say to one another
pub mod code
pub mod Vocabulary
