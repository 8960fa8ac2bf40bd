mod SpreadDates
mod SpreadFacts
mod Earlier
pub mod Placing
mod OneSpread
mod SomePlacement
