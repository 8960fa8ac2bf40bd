pub mod Declared
pub mod Counting
pub mod Signed
pub mod Segmented
pub mod Opening
pub mod Outcomes
pub mod Existence
-- for the crates above: the rules speak of the program's parameters alone, and the flows of expressions
pub mod Fitting
pub mod Walking
