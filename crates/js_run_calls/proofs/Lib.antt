pub mod Arguments
pub mod Layers
