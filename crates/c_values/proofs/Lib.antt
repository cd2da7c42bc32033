pub mod Formed
pub mod Same
pub mod Answers
