mod RouteLaws
pub mod Places
mod TrackSteps
pub mod NextLaws
pub mod Falls
