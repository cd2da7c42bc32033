pub mod OneFrame
pub mod Transmit
pub mod Receive
pub mod Term3
pub mod Flags
pub mod TurnWays
pub mod Calls
