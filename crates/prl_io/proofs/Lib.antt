pub mod WriteLemmas
pub mod Outcomes
