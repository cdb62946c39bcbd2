pub mod Numbers
pub mod OwnKeys
pub mod Integers
