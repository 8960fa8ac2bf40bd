pub mod Lists
pub mod Sound
pub mod Sources
pub mod FlatRules
pub mod Numbers
pub mod Corresponds
pub mod Ranks
pub mod Existence
pub mod Examples
pub mod FlowTypes
pub mod WellDefined
pub mod WellFormed
pub mod Formed
pub mod Nested
pub mod Unique
pub mod Bodies
pub mod Fitting
pub mod Served
mod Earlier
mod NamedCycles
mod Ones
mod TermLists
mod Adding
mod Expressions
mod Remaining
mod Entering
mod Expanded
mod Whole
mod Within
mod Stepping
mod Closing
