pub mod Contents
pub mod Properties
pub mod Sorting
