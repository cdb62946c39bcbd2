pub mod Waiting
pub mod Repeating
pub mod Runs
pub mod Starts
