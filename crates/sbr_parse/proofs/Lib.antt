pub mod Monad
pub mod Inverse
pub mod Window
pub mod ParseLists
pub mod Taken
pub mod ParseReads
pub mod ParseLaws
