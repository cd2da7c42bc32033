pub mod Borders
pub mod Frames
pub mod Wanted
