pub mod Order
pub mod Shown
mod Short
