pub mod Listing
pub mod Line
pub mod Enough
