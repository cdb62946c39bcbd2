pub mod Listing
pub mod Growing
pub mod Views
pub mod Walking
pub mod Fitting
pub mod Prices
