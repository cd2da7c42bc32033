pub mod Lines
pub mod Whole
pub mod Bounds
pub mod Pages
pub mod Turns
pub mod Enough
pub mod Settled
pub mod Unprinted
