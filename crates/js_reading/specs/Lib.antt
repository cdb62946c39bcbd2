pub mod Frames
pub mod Operands
pub mod Statements
pub mod Reading
