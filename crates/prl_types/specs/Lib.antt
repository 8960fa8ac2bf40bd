pub mod Parameters
pub mod Flows
pub mod Rules
pub mod Arity
pub mod Typing
pub mod Typings
-- what private functions say to one another
pub mod code
pub mod Vocabulary
