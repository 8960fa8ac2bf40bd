pub mod Stores
pub mod Kept
pub mod Laws
