-- What a run needs, and what it comes to.
pub mod Ready
-- What private functions say to one another.
pub mod code
