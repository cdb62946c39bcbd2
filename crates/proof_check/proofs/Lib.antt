pub mod Known
pub mod Units
pub mod Stamping
pub mod Sound
