pub mod Numbers
pub mod Bytes
pub mod Stream
pub mod Put
pub mod After
pub mod Turns
pub mod Room
pub mod Held
