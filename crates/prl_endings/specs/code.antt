pub mod Modes
pub mod Pieces
