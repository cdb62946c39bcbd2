pub mod Accepted
pub mod Form
pub mod Inputs
pub mod Names
pub mod Order
pub mod Taking
