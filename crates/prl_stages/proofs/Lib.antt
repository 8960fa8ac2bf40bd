pub mod Inputs
pub mod Outputs
pub mod Meaning
pub mod TypedBodies
pub mod Running
mod Told
pub mod SmallClocks
mod OnePlan
mod OneRun
mod OnePlaced
mod OneParts
mod OneTable
mod OneEnd
mod Decided
mod DecidedRuns
mod DecidedPlans
mod DecidedTables
mod Commands
mod LastStates
mod Ticks
mod Boards
mod Replaying
mod OneDispatch
mod OneTold
mod SameBodies
mod OneMeaning
mod OneText
mod AllHold
mod OneMode
mod OneMeant
mod SomeText
mod SomeMeant
