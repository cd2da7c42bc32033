pub mod Syntax
pub mod Write
pub mod Code
