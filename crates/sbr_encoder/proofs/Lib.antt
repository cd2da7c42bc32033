pub mod Resolves
pub mod Resolution
pub mod Kept
pub mod EveryElection
pub mod Choices
pub mod Unread
