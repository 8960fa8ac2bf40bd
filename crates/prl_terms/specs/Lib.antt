pub mod Choices
pub mod Solutions
pub mod MetViews
-- what private functions say to one another
pub mod code
pub mod Vocabulary
