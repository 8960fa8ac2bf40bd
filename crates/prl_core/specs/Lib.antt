-- what is seen of the machine, and what it tells
pub mod Cores
-- what private functions say to one another
pub mod code
pub mod Vocabulary
