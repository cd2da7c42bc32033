pub mod Refusals
pub mod Grid
pub mod Times
