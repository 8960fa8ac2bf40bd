pub mod Signs
pub mod Lowest
pub mod Examples
-- for the crates above: divisors, and lines cut one after another
pub mod Coprime
pub mod LineCuts
pub mod Standard
pub mod Quotients
