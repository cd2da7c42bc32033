pub mod Sendings
pub mod Streams
