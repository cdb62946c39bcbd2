pub mod Found
pub mod Picking
pub mod Places
pub mod Spelt
pub mod Supplied
