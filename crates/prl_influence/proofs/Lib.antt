mod Feeding
mod Shown
