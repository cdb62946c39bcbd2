pub mod Declaring
pub mod Opened
pub mod Started
