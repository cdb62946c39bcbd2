pub mod Early
pub mod Parts
pub mod Scopes
pub mod Weight
pub mod Search
