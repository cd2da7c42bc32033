pub mod Numbers
pub mod Tells
