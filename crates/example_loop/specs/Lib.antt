-- the task whose jobs may take longest
pub mod Longest
