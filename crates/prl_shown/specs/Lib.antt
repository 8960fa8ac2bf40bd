-- bytes as a terminal may show them
pub mod Shown
