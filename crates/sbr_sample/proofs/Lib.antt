pub mod Sampled
pub mod Seam
