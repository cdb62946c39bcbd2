pub mod Going
pub mod Later
pub mod Opens
pub mod Passing
pub mod Statements
pub mod Steps
