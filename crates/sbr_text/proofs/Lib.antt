pub mod Signs
pub mod Bytes
pub mod Bounds
pub mod Texts
pub mod Printed
