pub mod Borders
pub mod Spread
pub mod Inside
pub mod Times
pub mod Alike
