pub mod Shapes
pub mod Code
pub mod Named
