pub mod Literals
pub mod Validity
pub mod Derivations
