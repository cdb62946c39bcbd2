pub mod Credit
pub mod Fitting
pub mod Idle
pub mod Machine
pub mod Weight
