pub mod Making
pub mod Code
pub mod Back
pub mod Enough
