pub mod Onsets
