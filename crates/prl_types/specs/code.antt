pub mod Contexts
pub mod Segments
pub mod Signatures
