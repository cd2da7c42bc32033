pub mod Sample
pub mod Seam
