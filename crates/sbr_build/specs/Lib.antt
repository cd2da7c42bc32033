pub mod Build
pub mod Cases
pub mod Frames
pub mod Slots
