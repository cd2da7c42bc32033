pub mod Attacked
pub mod Cheapest
pub mod Search
