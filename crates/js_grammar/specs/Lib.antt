pub mod Phrases
pub mod Grammar
