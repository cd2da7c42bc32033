pub mod Gather
pub mod Writable
pub mod Body
pub mod Answers
pub mod Puts
