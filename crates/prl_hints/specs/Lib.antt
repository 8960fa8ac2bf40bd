-- where the word of a hint stands
pub mod Places
-- the hint that is given
pub mod Hints
