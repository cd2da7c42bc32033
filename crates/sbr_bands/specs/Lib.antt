pub mod Tables
pub mod Unread
