pub mod Least
pub mod Opens
pub mod Weighs
pub mod Turns
pub mod Earlier
pub mod Whole
pub mod Rows
