pub mod Envelopes
pub mod Unread
