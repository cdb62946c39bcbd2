pub mod Tree
pub mod Characters
pub mod Successes
pub mod Execution
pub mod Laws
