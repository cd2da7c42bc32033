pub mod Read
pub mod Inverse
pub mod Flag
