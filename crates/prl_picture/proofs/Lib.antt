mod Rows
mod Arrows
