pub mod Answers
pub mod Context
