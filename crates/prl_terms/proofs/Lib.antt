pub mod MarkLemmas
pub mod Replacing
pub mod Meeting
pub mod Starting
pub mod Ending
pub mod RuleStates
