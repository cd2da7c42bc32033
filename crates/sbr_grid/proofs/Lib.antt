pub mod First
pub mod Made
pub mod Laws
pub mod Widths
pub mod Outcomes
pub mod Slots
pub mod Number
