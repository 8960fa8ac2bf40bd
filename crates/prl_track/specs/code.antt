pub mod Firsts
pub mod Nexts
pub mod Cursors
pub mod Tests
pub mod Tracks
