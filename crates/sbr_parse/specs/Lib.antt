pub mod Syntax
pub mod Parse
pub mod Inverse
