pub mod Bits
pub mod Room
pub mod Put
