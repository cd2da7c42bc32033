pub mod Computed
pub mod Cases
pub mod Every
pub mod Best
pub mod ChoiceCases
