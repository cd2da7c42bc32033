pub mod Bare
pub mod Bounds
pub mod Near
pub mod TryEnds
