pub mod Copying
pub mod Declaring
pub mod Iterating
pub mod Rounds
