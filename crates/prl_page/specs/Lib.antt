-- texts as HTML shows them
pub mod Html
-- the parts of a page
pub mod Pages
