pub mod Largest
pub mod Edges
pub mod Octaves
pub mod Values
pub mod Stored
