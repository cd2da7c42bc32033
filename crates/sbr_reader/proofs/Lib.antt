pub mod ReadLaws
pub mod Reached
pub mod Told
pub mod Frames
pub mod Flag
