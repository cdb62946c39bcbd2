pub mod Builds
pub mod Words
pub mod Joins
pub mod LongDivision
