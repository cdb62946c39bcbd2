pub mod Marking
pub mod Stamps
pub mod Verdicts
