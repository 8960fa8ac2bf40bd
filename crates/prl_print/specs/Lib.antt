pub mod Printing
pub mod Places
pub mod RoundTrip
