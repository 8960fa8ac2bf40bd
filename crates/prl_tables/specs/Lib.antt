-- static cyclic tables
pub mod Tables
-- the list of events that a table stands for
pub mod Unrolled
-- texts of tables
pub mod TableTexts
-- why a table is not good
pub mod Checks
-- tables that were checked
pub mod CheckedTables
-- what private functions say to one another
pub mod code
pub mod Vocabulary
