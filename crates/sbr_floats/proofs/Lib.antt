pub mod Powers
pub mod Format
pub mod Spread
