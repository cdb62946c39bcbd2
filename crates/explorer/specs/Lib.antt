pub mod Found
pub mod Keys
pub mod Listing
pub mod SamePaths
