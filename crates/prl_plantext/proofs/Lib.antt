mod Examples
mod Lines
mod Parts
mod Divisors
mod Operators
mod Bytes
mod Cuts
mod Numbers
mod Printed
mod ReadBack
mod RoundTrip
mod Lists
mod Integers
mod Checked
mod CheckedEdges
mod CheckedGraphs
mod NoPlan
-- for the crates above: as many constants and cells as there are, whatever words and cells are listed
pub mod Counts
mod OneText
