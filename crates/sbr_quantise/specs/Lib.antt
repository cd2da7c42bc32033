pub mod Quantise
pub mod Largest
pub mod Octaves
