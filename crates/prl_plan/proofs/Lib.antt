-- For the crates above: lemmas over public definitions.
pub mod Places
pub mod Ceilings
pub mod WordNumbers
pub mod ReadOrder
pub mod ShortestRepeats
pub mod StateLaws
pub mod WalkLaws
pub mod UsedLaws
pub mod RoundPeriods
pub mod ReaderLaws
pub mod GapLaws
pub mod CellPeriods
pub mod DatePeriods
pub mod RepeatLaws
pub mod DatesRise
pub mod RoundLaws
pub mod Periods
pub mod WalkNumbers
pub mod NotLater
pub mod Floors
pub mod ChainLaws
pub mod PlanNumbers
pub mod PartsOfSums
pub mod Searches
pub mod OnePlan
pub mod PlanFacts
pub mod JobTableLaws
pub mod TableMade
-- For this crate alone.
mod Halves
mod Ports
mod Tagged
mod Sound
mod Legal
mod Runs
mod Counts
mod EventCounts
mod Actions
mod ActionPlaces
mod ReadPlaces
mod LastTags
mod Progress
mod Decided
mod HorizonLaws
mod Examples
mod WorkedGraphs
mod WorkedPlan
mod DateOrder
mod PlaceLaws
mod PlanParts
mod ActionLists
mod SumLaws
mod ActionCounts
mod UsedPeriods
