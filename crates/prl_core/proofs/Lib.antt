mod Telling
mod Keeping
mod Opening
mod Given
mod Stored
