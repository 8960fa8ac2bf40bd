-- what evaluation gives, and when it does not
pub mod Evaluations
-- what private functions say to one another
pub mod code
pub mod Vocabulary
