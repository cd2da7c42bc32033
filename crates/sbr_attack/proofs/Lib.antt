pub mod Segments
