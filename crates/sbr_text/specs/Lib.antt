pub mod Parts
pub mod Items
pub mod Code
pub mod Reads
