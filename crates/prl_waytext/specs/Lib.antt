-- what comes of the text of a program alone
pub mod ProgramTexts
-- a task whose jobs need more than they have
pub mod Longs
-- what is told of cycles, mismatches, chains and loops
pub mod Ways
