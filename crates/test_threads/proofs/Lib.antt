mod Stepped
mod Overruns
mod Placed
