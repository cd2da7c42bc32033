pub mod Run
pub mod Readings
pub mod Term3
pub mod Place
