pub mod Election
pub mod Electable
pub mod Unread
