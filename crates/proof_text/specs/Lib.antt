pub mod Numbers
pub mod Lines
pub mod Blocks
pub mod Reading
pub mod Refusals
pub mod Counted
pub mod BlockReading
pub mod Answers
