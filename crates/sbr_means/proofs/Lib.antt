pub mod Spans
pub mod Sums
pub mod Places
