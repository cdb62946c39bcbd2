pub mod Idle
pub mod Paths
