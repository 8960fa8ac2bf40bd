-- what private functions say to one another
pub mod Finders
pub mod Left
-- fields and rows in plain form
pub mod Plain
