pub mod File
pub mod Places
pub mod Spelling
pub mod Order
pub mod Counting
pub mod Taken
pub mod Rows
pub mod Alphabet
