pub mod Series
pub mod Typing
pub mod Lists
pub mod Parts
pub mod Inversion
pub mod TypedSound
pub mod BodySound
pub mod BodyList
pub mod Outcomes
pub mod FirstOf
pub mod Lookups
pub mod ThereBodies
-- for the crates above: lists that a loop fills, element by element
pub mod Steps
-- for the crates above: the trees of series of operators
pub mod TextSeries
-- for the crates above: the bodies of used imports, and the types of what a step gives
pub mod UsedBodies
pub mod Sound
