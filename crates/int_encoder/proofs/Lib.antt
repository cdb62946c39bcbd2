pub mod Orders
pub mod Standing
pub mod Safe
pub mod Encoded
pub mod Naturals
pub mod Lowest
pub mod Shifting
