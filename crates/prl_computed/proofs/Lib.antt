mod Cited
mod Held
mod Tasks
mod Values
mod Ones
