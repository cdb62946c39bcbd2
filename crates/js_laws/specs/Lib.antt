pub mod Reaching
pub mod Further
