pub mod Folders
pub mod Growth
pub mod Views
pub mod Numbering
pub mod MemFolders
pub mod MemStores
-- the words of a command line
pub mod Pairs
-- how a call ends
pub mod Endings
-- the files that are read
pub mod Files
-- how a call ends where something may not fit
pub mod Faults
