pub mod RightTrees
pub mod Calls
pub mod Right
-- for the crates above: the outcomes of texts
pub mod WholeTexts
