pub mod OnsetSame
pub mod Onsets
pub mod OnsetLead
