-- task graphs, jobs, operands, dates and cells
pub mod Operands
pub mod Jobs
pub mod Precedence
pub mod Graphs
pub mod Representable
pub mod Dates
pub mod Chains
pub mod Cells
-- words, and lists that repeat
pub mod Repeats
pub mod FirstReaders
pub mod Words
-- plans, and what their jobs do
pub mod Plans
pub mod DateLists
pub mod CellLists
pub mod JobTables
-- states of an executive, events and their rules
pub mod Runs
pub mod Rules
pub mod Horizons
pub mod Spread
-- what laws say of them
pub mod Facts
pub mod States
pub mod LastTags
pub mod CellTurns
pub mod Ranges
pub mod Vocabulary
