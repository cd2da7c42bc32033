pub mod Shifts
pub mod Walks
