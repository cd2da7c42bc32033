pub mod Attack
