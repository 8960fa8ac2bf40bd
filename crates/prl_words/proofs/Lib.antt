mod Climbs
mod Turns
mod Extended
mod Rooms
mod SoFar
mod Shortest
mod Pushed
mod Held
mod Lead
mod Constants
-- for the crates above: lists whose elements match have one sum
pub mod Listed
mod SomeWord
mod WordsEnd
mod Examples
mod PrecedingNumbers
mod WordPeriods
mod HorizonNumbers
mod FirstItems
