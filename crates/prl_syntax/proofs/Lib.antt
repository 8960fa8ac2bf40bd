pub mod Right
pub mod Loops
pub mod Groups
pub mod Links
-- for the crates above: the outcomes of texts, arguments as rows, and reduced ratios
pub mod WholeTexts
pub mod Rows
pub mod Ratios
